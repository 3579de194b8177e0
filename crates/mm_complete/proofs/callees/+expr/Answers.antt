use Rattle.std.proofs.Common.{refl}
use Rattle.mm_core.specs.View.{expr_view, exprs_view}
use Rattle.mm_complete.specs.Callees.{callees, all_callees}
use Rattle.mm_complete.proofs.Walks.{next, end}
use Rattle.mm_complete.proofs.callees.+expr.Goals as goal

pub add_exprs-loop-e-preserved : goal.add_exprs-loop-e-preserved
add_exprs-loop-e-preserved t c =
    next (λ xs. all_callees (exprs_view xs)) (λ x. callees (expr_view x)) (λ x xs. refl) refl c.args.list.now c.args.es.now c.loop-e.e-index c.e-item.result c.loop-e.list c.e-item.is c.loop-e-test.true c.loop-e.invariant c.add_expr.new.list c.in_ok-add_expr.ensures

pub add_exprs-returns : goal.add_exprs-returns
add_exprs-returns t c = end (λ xs. all_callees (exprs_view xs)) (λ x. callees (expr_view x)) (λ x xs. refl) refl c.args.list.now c.args.es.now c.loop-e.e-index c.loop-e.list c.loop-e-test.false c.loop-e.invariant
