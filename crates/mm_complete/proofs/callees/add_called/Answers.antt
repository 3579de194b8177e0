use Rattle.std.proofs.Common.{map, refl}
use Rattle.mm_core.specs.View.{body_view, function_view}
use Rattle.mm_complete.specs.Callees.{body_callees, called_by}
use Rattle.mm_complete.proofs.Walks.{next, end}
use Rattle.mm_complete.proofs.callees.add_called.Goals as goal

pub loop-function-preserved : goal.loop-function-preserved
loop-function-preserved c =
    next (λ xs. called_by (map function_view xs)) (λ x. body_callees (body_view x.body)) (λ x xs. refl) refl c.args.list.now c.args.functions.now c.loop-function.function-index c.function-item.result c.loop-function.list c.function-item.is c.loop-function-test.true c.loop-function.invariant c.add_body.new.list c.in_ok-add_body.ensures

pub returns : goal.returns
returns c = end (λ xs. called_by (map function_view xs)) (λ x. body_callees (body_view x.body)) (λ x xs. refl) refl c.args.list.now c.args.functions.now c.loop-function.function-index c.loop-function.list c.loop-function-test.false c.loop-function.invariant
