use Rattle.std.proofs.Common.{ℕ, sym, subst, ◌∙◌}
use Rattle.std.specs.Prelude.{Option}
use Rattle.mm_classes.specs.Classes.{IsNextNamed, members_of}
use Rattle.mm_paths.proofs.graph.Graph.first_named.Goals as goal

pub returns : goal.returns
returns c = subst (λ (x : Option ℕ). IsNextNamed x (members_of c.args.self.now c.args.c) c.args.name.now 0) (sym (c.copied.ensures ∙ c.get.ensures.value))
    (c.parts_of.ensures.parts.named.start c.args.name.now)
