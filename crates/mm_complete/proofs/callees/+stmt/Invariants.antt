use Rattle.std.proofs.Common.{◌≡◌, ◌++◌, drop}
use Rattle.mm_core.specs.View.{stmts_view}
use Rattle.mm_complete.specs.Callees.{stmts_callees}
use Rattle.mm_complete.proofs.callees.+stmt.Given as goal

abbrev pub invariant-add_stmts-loop-s : goal.invariant-add_stmts-loop-s
invariant-add_stmts-loop-s l =
    l.list ++ stmts_callees (stmts_view (drop l.s-index l.ss)) ≡ l.fn.list ++ stmts_callees (stmts_view l.ss)
