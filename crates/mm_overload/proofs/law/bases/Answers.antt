use Rattle.mm_overload.proofs.Bases.{is_base-decides}
use Rattle.mm_overload.proofs.law.bases.Goals as goal

pub returns : goal.returns
returns c = is_base-decides c.args.graph.now c.classes-classes.ensures.valid
