use Rattle.mm_classes.specs.Questions.{node}
use Rattle.mm_lookup.proofs.Using.{protected_none, protected_some}
use Rattle.mm_lookup.proofs.uses.protected_access.Goals as goal

pub returns-in_default : goal.returns-in_default
returns-in_default c = protected_none c.args.graph.now c.args.c (node c.args.graph.now c.args.c c.args.n) c.in_default.ensures

pub returns : goal.returns
returns c = protected_some c.args.graph.now c.args.c (node c.args.graph.now c.args.c c.args.n) c.in-Some.access c.lesser_of.result c.lesser_of.ensures c.in-Some.ensures
