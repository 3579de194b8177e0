use Rattle.std.proofs.Common.{◌≡◌, ◌≤◌, ◌-◌, take, sum_by, cond}
use Rattle.mm_classes.specs.Subobjects.{subobjects_of, end_of}
use Rattle.mm_layout.specs.Layouts.{test_of}
use Rattle.mm_layout.proofs.few.pairs_of_complete.Given as goal

abbrev pub invariant-loop-n : goal.invariant-loop-n
invariant-loop-n l = record {
  low : l.n ≤ l.count;
  few : l.pairs ≤ l.n;
  so_far : l.pairs ≡ sum_by (λ p. cond (test_of l.tags (end_of p)) 1 0) (take l.n (subobjects_of l.graph l.d));
}

abbrev pub decreases-loop-n : goal.decreases-loop-n
decreases-loop-n l = l.count - l.n
