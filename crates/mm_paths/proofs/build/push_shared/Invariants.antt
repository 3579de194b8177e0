use Rattle.std.proofs.Common.{length, ◌-◌, ◌≡◌, ◌≤◌, ◌++◌, take}
use Rattle.std.specs.List.{flat_map}
use Rattle.mm_classes.specs.Subobjects.{chains}
use Rattle.mm_paths.specs.Stored.{paths_in, starts_from}
use Rattle.mm_paths.proofs.build.push_shared.Given as goal

abbrev pub invariant-loop-n : goal.invariant-loop-n
invariant-loop-n l = record {
  low : l.n ≤ length l.shared;
  few : length l.nodes.items ≤ 256;
  done : paths_in l.nodes.items ≡ paths_in l.initial.nodes.items ++ flat_map (chains l.graph (length l.graph)) (take l.n l.shared);
  begun : l.starts.items ≡ starts_from (chains l.graph (length l.graph)) (length l.initial.nodes.items) (take l.n l.shared);
}

abbrev pub decreases-loop-n : goal.decreases-loop-n
decreases-loop-n l = length l.shared - l.n
