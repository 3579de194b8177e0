use Rattle.std.proofs.Common.{◌-◌, ◌<◌, ◌≤◌}
use Rattle.mm_virtual.specs.Kept.{StandsAmong}
use Rattle.mm_virtual.proofs.finals.place_in.Given as goal

abbrev pub invariant-loop-high : goal.invariant-loop-high
invariant-loop-high l = record { has : StandsAmong l.members l.member l.low l.high }

abbrev pub decreases-loop-high : goal.decreases-loop-high
decreases-loop-high l = l.high - l.low
