use Rattle.std.proofs.Common.{ℕ, ◌≡◌, ◌-◌, ◌≤◌, length, get_or}
use Rattle.std.specs.Prelude.{None}
use Rattle.mm_paths.proofs.reach.no_access.Given as goal

abbrev pub invariant-loop-k : goal.invariant-loop-k
invariant-loop-k l = record {
  low : l.k ≤ l.count;
  long : length l.all.items ≡ l.k;
  none : (i : ℕ) → get_or l.all.items i None ≡ None;
}

abbrev pub decreases-loop-k : goal.decreases-loop-k
decreases-loop-k l = l.count - l.k
