use Rattle.std.proofs.Common.{◌≡◌, ℕ, ◌<◌, ◌≤◌, ◌-◌, get_or, length, None}
use Rattle.mm_layout.specs.Cells.{IsCell}
use Rattle.mm_layout.specs.Layouts.{test_of}
use Rattle.mm_layout.proofs.cells.cells.Given as goal

abbrev pub invariant-loop-n : goal.invariant-loop-n
invariant-loop-n l = record {
  low : l.n ≤ l.count;
  long : length l.cells.items ≡ l.n;
  each : (k : ℕ) → k < l.n → IsCell l.graph (test_of l.sorts.tags.items) l.fn.d k (get_or l.cells.items k None);
}

abbrev pub decreases-loop-n : goal.decreases-loop-n
decreases-loop-n l = l.count - l.n
