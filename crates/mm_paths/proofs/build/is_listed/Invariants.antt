use Rattle.std.proofs.Common.{length, ◌-◌, ◌≤◌, take}
use Rattle.mm_classes.specs.Lists.{Has}
use Rattle.mm_paths.specs.Ends.{classes_of}
use Rattle.mm_paths.proofs.build.is_listed.Given as goal

abbrev pub invariant-loop-n : goal.invariant-loop-n
invariant-loop-n l = record { low : l.n ≤ length l.bases; none : Has (classes_of (take l.n l.bases)) l.class → ⊥ }

abbrev pub decreases-loop-n : goal.decreases-loop-n
decreases-loop-n l = length l.bases - l.n
