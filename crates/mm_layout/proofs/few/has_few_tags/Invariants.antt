use Rattle.std.proofs.Common.{◌≡◌, ◌≤◌, ◌-◌}
use Rattle.mm_layout.specs.Cells.{pairs_before}
use Rattle.mm_layout.specs.Layouts.{test_of}
use Rattle.mm_layout.proofs.few.has_few_tags.Given as goal

abbrev pub invariant-loop-c : goal.invariant-loop-c
invariant-loop-c l = record {
  low : l.c ≤ l.count;
  few : l.pairs ≤ 65535;
  so_far : l.pairs ≡ pairs_before l.graph (test_of l.tags.items) l.c;
}

abbrev pub decreases-loop-c : goal.decreases-loop-c
decreases-loop-c l = l.count - l.c
