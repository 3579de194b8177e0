use Rattle.std.proofs.Common.{sym, subst}
use Rattle.std.specs.Bool.{Decides}
use Rattle.mm_classes.specs.Classes.{members_of}
use Rattle.mm_lookup.proofs.Declaring.{Named, first_decides}
use Rattle.mm_lookup.proofs.find.declares.Goals as goal

pub returns : goal.returns
returns c = subst (λ k. Decides c.is_some.result (Named (members_of c.args.graph.now k) c.args.name.now)) c.class_of.ensures.class
    (subst (λ b. Decides b (Named (members_of c.args.graph.now c.class_of.result) c.args.name.now)) (sym c.is_some.ensures)
    (first_decides c.first_named.result (members_of c.args.graph.now c.class_of.result) c.args.name.now c.first_named.ensures))
