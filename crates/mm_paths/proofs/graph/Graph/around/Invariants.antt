use Rattle.std.proofs.Common.{◌-◌, ◌≤◌}
use Rattle.mm_classes.specs.Questions.{Picks, Surrounds}
use Rattle.mm_paths.proofs.graph.Graph.around.Given as goal

abbrev pub invariant-loop-x : goal.invariant-loop-x
invariant-loop-x l = record { low : l.x ≤ l.count; so_far : Picks l.found (Surrounds l.self l.d l.n l.t) l.x }

abbrev pub decreases-loop-x : goal.decreases-loop-x
decreases-loop-x l = l.count - l.x
