use Rattle.std.proofs.Common.{List, ℕ, ◌≡◌, subst, sym, ◌∙◌}
use Rattle.mm_classes.specs.Lists.{Has}
use Rattle.mm_classes.specs.Subobjects.{virtual_bases}
use Rattle.mm_classes.proofs.Within.{are_virtual_bases, virtual_bases_are}
use Rattle.mm_paths.proofs.graph.Graph.virtual_bases.Goals as goal

pub returns-clause-each : goal.returns-clause-each
returns-clause-each c =
    let e : c.as_slice.result.now ≡ virtual_bases c.args.self.now c.args.c = c.as_slice.ensures.value ∙ c.parts_of.ensures.parts.shared in
    λ v. (
      (λ k. subst (λ (z : List ℕ). Has z v) (sym e) (are_virtual_bases c.args.self.now c.parts_of.ensures.valid c.args.c v k)),
      λ h. virtual_bases_are c.args.self.now c.parts_of.ensures.valid c.args.c v (subst (λ (z : List ℕ). Has z v) e h),
    )
