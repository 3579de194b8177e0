use Rattle.std.proofs.Common.{◌≡◌, ℕ, ◌*◌, ◌<◌, ◌≤◌, ◌-◌, get_or, length}
use Rattle.mm_layout.specs.Regions.{offset_of}
use Rattle.mm_layout.specs.Layouts.{test_of}
use Rattle.mm_layout.proofs.region.offsets.Given as goal

abbrev pub invariant-loop-n : goal.invariant-loop-n
invariant-loop-n l = record {
  low : l.n ≤ l.count;
  long : length l.offsets.items ≡ l.n;
  each : (k : ℕ) → k < l.n → get_or l.offsets.items k 0 ≡ offset_of l.graph (test_of l.sorts.tags.items) l.d k;
  end_is : l.end ≡ offset_of l.graph (test_of l.sorts.tags.items) l.d l.n;
  small : l.end ≤ l.n * 4194312;
}

abbrev pub decreases-loop-n : goal.decreases-loop-n
decreases-loop-n l = l.count - l.n
