use Rattle.std.proofs.Common.{◌≡◌, ℕ, ◌<◌, ◌≤◌, ◌-◌, false, get_or, length}
use Rattle.mm_classes.specs.Classes.{IsComplete}
use Rattle.mm_layout.specs.Regions.{owns_cell}
use Rattle.mm_layout.specs.Layouts.{test_of}
use Rattle.mm_layout.proofs.sorts.owning.Given as goal

abbrev pub invariant-loop-c : goal.invariant-loop-c
invariant-loop-c l = record {
  low : l.c ≤ l.count;
  long : length l.owning.items ≡ l.c;
  done : (k : ℕ) → k < l.c → IsComplete l.graph k → get_or l.owning.items k false ≡ owns_cell l.graph (test_of l.tags) k;
}

abbrev pub decreases-loop-c : goal.decreases-loop-c
decreases-loop-c l = l.count - l.c
