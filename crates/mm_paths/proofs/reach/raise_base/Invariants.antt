use Rattle.std.proofs.Common.{◌≡◌, ◌-◌, ◌≤◌, length}
use Rattle.mm_paths.specs.Reach.{AreGreatestWith}
use Rattle.mm_paths.proofs.reach.raise_base.Given as goal

abbrev pub invariant-loop-k : goal.invariant-loop-k
invariant-loop-k l = record {
  low : l.k ≤ length l.accesses;
  long : length l.all.items ≡ length l.initial.all.items;
  so_far : AreGreatestWith l.graph l.fn.class l.bases l.n l.base l.k l.all.items;
}

abbrev pub decreases-loop-k : goal.decreases-loop-k
decreases-loop-k l = length l.accesses - l.k
