use Rattle.std.proofs.Common.{◌≤◌, ◌^◌, List, subst, sym, ap, ◌∙◌}
use Rattle.mm_classes.specs.declared.class.Member.{Member}
use Rattle.mm_classes.specs.Classes.{Class, members_of, field_count}
use Rattle.mm_paths.specs.Stored.{IsStored}
use Rattle.mm_paths.proofs.Laws.{fields_of}
use Rattle.mm_paths.proofs.graph.Graph.members.Goals as goal

pub returns-clause-fields : goal.returns-clause-fields
returns-clause-fields c = λ k. subst (λ (ms : List Member). field_count ms ≤ 2 ^ 19) (sym (c.members.ensures.members ∙ ap (λ (g : List Class). members_of g c.args.c) c.self.view_is))
    (fields_of c.args.self.now c.self.inside.parts.items c.args.c (subst (λ (g : List Class). IsStored g c.self.inside.parts.items) c.self.view_is c.self.invariant) k)
