use Rattle.std.proofs.Common.{◌≡◌, ℕ, ◌<◌, ◌≤◌, ◌-◌, get_or, length}
use Rattle.mm_classes.specs.Classes.{IsComplete}
use Rattle.mm_layout.specs.Regions.{region_of}
use Rattle.mm_layout.specs.Layouts.{test_of}
use Rattle.mm_layout.proofs.sorts.regions.Given as goal

abbrev pub invariant-loop-c : goal.invariant-loop-c
invariant-loop-c l = record {
  low : l.c ≤ l.count;
  long : length l.regions.items ≡ l.c;
  done : (k : ℕ) → k < l.c → IsComplete l.graph k → get_or l.regions.items k 0 ≡ region_of l.graph (test_of l.tags) k;
  few : (k : ℕ) → k < l.c → get_or l.regions.items k 0 ≤ 4194312;
}

abbrev pub decreases-loop-c : goal.decreases-loop-c
decreases-loop-c l = l.count - l.c
