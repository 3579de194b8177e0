use Rattle.std.proofs.Common.{◌≡◌, ℕ, ◌+◌, ◌<◌, ◌≤◌, ◌-◌, get_or, length, take}
use Rattle.mm_classes.specs.Classes.{field_count}
use Rattle.mm_layout.specs.Regions.{place_of, own_cells}
use Rattle.mm_layout.specs.Layouts.{test_of}
use Rattle.mm_layout.proofs.region.places.Given as goal

abbrev pub invariant-loop-k : goal.invariant-loop-k
invariant-loop-k l = record {
  low : l.k ≤ length l.members;
  long : length l.places.items ≡ l.k;
  each : (j : ℕ) → j < l.k → get_or l.places.items j 0 ≡ place_of l.graph (test_of l.sorts.tags.items) l.fn.c j;
  cells_are : l.cells ≡ own_cells l.graph (test_of l.sorts.tags.items) l.fn.c + field_count (take l.k l.members);
}

abbrev pub decreases-loop-k : goal.decreases-loop-k
decreases-loop-k l = length l.members - l.k
