use Rattle.std.proofs.Common.{length, map, ◌+◌, ◌-◌, ◌≡◌, ◌≤◌, ◌++◌, take}
use Rattle.mm_paths.specs.Stored.{paths_in}
use Rattle.mm_paths.proofs.build.push_block.Given as goal

abbrev pub invariant-loop-k : goal.invariant-loop-k
invariant-loop-k l = record {
  low : l.k ≤ length l.from;
  few : length l.nodes.items ≤ 256;
  count : length l.nodes.items ≡ length l.initial.nodes.items + l.k;
  done : paths_in l.nodes.items ≡ paths_in l.initial.nodes.items ++ map (λ p. l.front ++ p) (paths_in (take l.k l.from));
}

abbrev pub decreases-loop-k : goal.decreases-loop-k
decreases-loop-k l = length l.from - l.k
