use Rattle.std.proofs.Common.{length, ◌-◌, ◌≤◌, drop}
use Rattle.mm_classes.specs.Lists.{Has}
use Rattle.mm_paths.proofs.find.start_among.Given as goal

abbrev pub invariant-loop-v : goal.invariant-loop-v
invariant-loop-v l = record { low : l.j ≤ length l.shared; rest : Has (drop l.j l.shared) l.v }

abbrev pub decreases-loop-v : goal.decreases-loop-v
decreases-loop-v l = length l.shared - l.j
