use Rattle.std.proofs.Common.{length, take, ◌-◌, ◌≤◌}
use Rattle.mm_classes.specs.declared.class.Base.{Base}
use Rattle.mm_classes.specs.Lists.{Has}
use Rattle.mm_classes.specs.Classes.{IsPolymorphic}
use Rattle.mm_paths.proofs.build.any_polymorphic.Given as goal

abbrev pub invariant-loop-n : goal.invariant-loop-n
invariant-loop-n l = record { low : l.n ≤ length l.bases; none : (b : Base) → Has (take l.n l.bases) b → IsPolymorphic l.graph b.class → ⊥ }

abbrev pub decreases-loop-n : goal.decreases-loop-n
decreases-loop-n l = length l.bases - l.n
