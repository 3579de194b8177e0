use Rattle.std.proofs.Common.{◌-◌, ◌<◌, ◌≤◌, ℕ}
use Rattle.mm_classes.specs.Subobjects.{end_of}
use Rattle.mm_classes.specs.Questions.{node}
use Rattle.mm_virtual.specs.Results.{BreaksAt}
use Rattle.mm_virtual.proofs.results.is_broken.Given as goal

abbrev pub invariant-loop-n : goal.invariant-loop-n
invariant-loop-n l = record {
  low : 0 < l.n;
  none : (r : ℕ) → 0 < r → r < l.n → BreaksAt l.graph l.m (end_of (node l.graph l.fn.c r)) → ⊥;
}

abbrev pub decreases-loop-n : goal.decreases-loop-n
decreases-loop-n l = l.count - l.n
