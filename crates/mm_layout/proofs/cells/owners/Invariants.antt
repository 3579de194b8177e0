use Rattle.std.proofs.Common.{◌≡◌, ℕ, ◌<◌, ◌≤◌, get_or, length, None}
use Rattle.mm_classes.specs.Questions.{IsNode}
use Rattle.mm_layout.specs.Kept.{IsUser}
use Rattle.mm_layout.specs.Layouts.{test_of}
use Rattle.mm_layout.proofs.Owning.{IsNextOf}
use Rattle.mm_layout.proofs.cells.owners.Given as goal

abbrev pub invariant-loop-n : goal.invariant-loop-n
invariant-loop-n l = record {
  low : l.n ≤ l.count;
  long : length l.owners.items ≡ l.count;
  each : (k : ℕ) → l.n ≤ k → IsNode l.graph l.d k → IsUser l.graph (test_of l.sorts.tags.items) l.d k (get_or l.owners.items k None);
  next_is : IsNextOf l.graph (test_of l.sorts.tags.items) l.d l.n l.next;
}

abbrev pub decreases-loop-n : goal.decreases-loop-n
decreases-loop-n l = l.n
