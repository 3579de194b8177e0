use Rattle.std.proofs.Common.{◌≡◌, ℕ, ◌+◌, ◌<◌, ◌≤◌, ◌-◌, get_or, length, None}
use Rattle.mm_layout.specs.Cells.{IsTag, cells_before}
use Rattle.mm_layout.specs.Layouts.{test_of}
use Rattle.mm_layout.proofs.cells.numbers.Given as goal

abbrev pub invariant-loop-n : goal.invariant-loop-n
invariant-loop-n l = record {
  low : l.n ≤ l.count;
  long : length l.tags.items ≡ l.n;
  each : (k : ℕ) → k < l.n → IsTag l.graph (test_of l.sorts.tags.items) l.d k (get_or l.tags.items k None);
  next_is : l.next ≡ l.first + cells_before l.graph (test_of l.sorts.tags.items) l.d l.n;
}

abbrev pub decreases-loop-n : goal.decreases-loop-n
decreases-loop-n l = l.count - l.n
