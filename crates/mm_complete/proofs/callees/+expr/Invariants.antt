use Rattle.std.proofs.Common.{◌≡◌, ◌++◌, drop}
use Rattle.mm_core.specs.View.{exprs_view}
use Rattle.mm_complete.specs.Callees.{all_callees}
use Rattle.mm_complete.proofs.callees.+expr.Given as goal

abbrev pub invariant-add_exprs-loop-e : goal.invariant-add_exprs-loop-e
invariant-add_exprs-loop-e l =
    l.list ++ all_callees (exprs_view (drop l.e-index l.es)) ≡ l.fn.list ++ all_callees (exprs_view l.es)
