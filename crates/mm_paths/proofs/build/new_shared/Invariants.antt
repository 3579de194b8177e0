use Rattle.std.proofs.Common.{length, ◌-◌, ◌≡◌, ◌≤◌, take}
use Rattle.mm_classes.specs.Adding.{new_virtual_bases}
use Rattle.mm_paths.proofs.build.new_shared.Given as goal

abbrev pub invariant-loop-n : goal.invariant-loop-n
invariant-loop-n l = record {
  low : l.n ≤ length l.bases;
  done : l.seen.items ≡ new_virtual_bases l.graph (take l.n l.bases);
}

abbrev pub decreases-loop-n : goal.decreases-loop-n
decreases-loop-n l = length l.bases - l.n
