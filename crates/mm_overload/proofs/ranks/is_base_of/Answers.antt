use Rattle.mm_overload.proofs.Bases.{answer-base}
use Rattle.mm_overload.proofs.ranks.is_base_of.Goals as goal

pub returns : goal.returns
returns c = answer-base c.args.graph.now c.classes-classes.ensures.valid c.args.c c.args.b _
    c.derives.ensures
