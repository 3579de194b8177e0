use Rattle.std.proofs.Common.{subst, ◌∙◌}
use Rattle.mm_classes.specs.Lists.{Has}
use Rattle.mm_paths.proofs.Added.{virtuals_stand}
use Rattle.mm_paths.proofs.build.new_nodes.Goals as goal

pub push_shared-requires-clause-complete : goal.push_shared-requires-clause-complete
push_shared-requires-clause-complete c = λ v h. virtuals_stand c.args.graph.now c.requires.valid c.args.bases.now c.requires.known v
    (subst (λ z. Has z v) (c.as_slice.ensures.value ∙ c.in_ok-shared.ensures) h)
