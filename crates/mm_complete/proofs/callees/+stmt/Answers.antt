use Rattle.std.proofs.Common.{refl}
use Rattle.mm_core.specs.View.{stmt_view, stmts_view}
use Rattle.mm_complete.specs.Callees.{stmt_callees, stmts_callees}
use Rattle.mm_complete.proofs.Walks.{next, end}
use Rattle.mm_complete.proofs.callees.+stmt.Goals as goal

pub add_stmts-loop-s-preserved : goal.add_stmts-loop-s-preserved
add_stmts-loop-s-preserved t c =
    next (λ xs. stmts_callees (stmts_view xs)) (λ x. stmt_callees (stmt_view x)) (λ x xs. refl) refl c.args.list.now c.args.ss.now c.loop-s.s-index c.s-item.result c.loop-s.list c.s-item.is c.loop-s-test.true c.loop-s.invariant c.add_stmt.new.list c.in_ok-add_stmt.ensures

pub add_stmts-returns : goal.add_stmts-returns
add_stmts-returns t c = end (λ xs. stmts_callees (stmts_view xs)) (λ x. stmt_callees (stmt_view x)) (λ x xs. refl) refl c.args.list.now c.args.ss.now c.loop-s.s-index c.loop-s.list c.loop-s-test.false c.loop-s.invariant
