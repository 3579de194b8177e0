use Rattle.std.proofs.Common.{◌≡◌, ℕ, ◌<◌, ◌≤◌, ◌-◌, false, get_or, length}
use Rattle.std.specs.Bool.{Decides}
use Rattle.mm_layout.specs.Regions.{HasTag}
use Rattle.mm_layout.proofs.tags.tags.Given as goal

abbrev pub invariant-loop-c : goal.invariant-loop-c
invariant-loop-c l = record {
  low : l.c ≤ l.count;
  long : length l.tags.items ≡ l.c;
  done : (k : ℕ) → k < l.c → Decides (get_or l.tags.items k false) (HasTag l.graph k);
}

abbrev pub decreases-loop-c : goal.decreases-loop-c
decreases-loop-c l = l.count - l.c
