use Rattle.std.proofs.Common.{length, ◌-◌, ◌≡◌, ◌≤◌, take}
use Rattle.mm_classes.specs.Adding.{new_chains}
use Rattle.mm_paths.specs.Stored.{paths_in}
use Rattle.mm_paths.proofs.build.new_own.Given as goal

abbrev pub invariant-loop-n : goal.invariant-loop-n
invariant-loop-n l = record {
  low : l.n ≤ length l.bases;
  few : length l.nodes.items ≤ 256;
  done : paths_in l.nodes.items ≡ new_chains l.graph l.class (take l.n l.bases);
}

abbrev pub decreases-loop-n : goal.decreases-loop-n
decreases-loop-n l = length l.bases - l.n
