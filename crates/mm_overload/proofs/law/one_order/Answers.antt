use Rattle.mm_overload.proofs.Orders.{one_order_only}
use Rattle.mm_overload.proofs.law.one_order.Goals as goal

pub returns : goal.returns
returns c = one_order_only c.args.graph.now c.classes-classes.ensures.valid
