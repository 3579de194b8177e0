use Rattle.std.proofs.Common.{◌≡◌, ◌-◌, ◌≤◌, length, take}
use Rattle.mm_classes.specs.Adding.{new_chains, new_subobjects}
use Rattle.mm_paths.specs.Reach.{AreGreatest}
use Rattle.mm_paths.proofs.reach.new_access.Given as goal

abbrev pub invariant-loop-n : goal.invariant-loop-n
invariant-loop-n l = record {
  low : l.n ≤ length l.bases;
  front : l.plain ≡ length (new_chains l.graph l.class (take l.n l.bases));
  long : length l.all.items ≡ length (new_subobjects l.graph l.class l.bases);
  so_far : AreGreatest l.graph l.class l.bases l.n l.all.items;
}

abbrev pub decreases-loop-n : goal.decreases-loop-n
decreases-loop-n l = length l.bases - l.n
