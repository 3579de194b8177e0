use Rattle.std.proofs.Common.{ℕ, length, ◌-◌, ◌≤◌, ◌<◌}
use Rattle.mm_paths.specs.Ends.{IsFine}
use Rattle.mm_paths.proofs.build.look.Given as goal

abbrev pub invariant-loop-n : goal.invariant-loop-n
invariant-loop-n l = record { low : l.n ≤ length l.bases; fine : (k : ℕ) → k < l.n → IsFine l.graph l.bases k }

abbrev pub decreases-loop-n : goal.decreases-loop-n
decreases-loop-n l = length l.bases - l.n
