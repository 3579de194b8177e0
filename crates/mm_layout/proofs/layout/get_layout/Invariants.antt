use Rattle.std.proofs.Common.{◌≡◌, ℕ, ◌<◌, ◌≤◌, ◌-◌, length}
use Rattle.mm_classes.specs.Classes.{IsComplete}
use Rattle.mm_layout.specs.Cells.{tags_before}
use Rattle.mm_layout.specs.Layouts.{IsObjectOf, object_at, test_of}
use Rattle.mm_layout.specs.Kept.{objects_in}
use Rattle.mm_layout.proofs.layout.get_layout.Given as goal

abbrev pub invariant-loop-c : goal.invariant-loop-c
invariant-loop-c l = record {
  low : l.c ≤ l.count;
  long : length l.classes.items ≡ l.c;
  next_is : l.next ≡ tags_before l.graph (test_of l.sorts.tags.items) l.c;
  objects : (k : ℕ) → k < l.c → IsComplete l.graph k → IsObjectOf l.graph (test_of l.sorts.tags.items) k (object_at (objects_in l.classes.items) k);
}

abbrev pub decreases-loop-c : goal.decreases-loop-c
decreases-loop-c l = l.count - l.c
