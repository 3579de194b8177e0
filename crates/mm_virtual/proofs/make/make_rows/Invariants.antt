use Rattle.std.proofs.Common.{◌-◌, ◌≤◌}
use Rattle.mm_virtual.specs.Kept.{lines_of}
use Rattle.mm_virtual.proofs.Rowing.{AreLines}
use Rattle.mm_virtual.proofs.make.make_rows.Given as goal

abbrev pub invariant-loop-n : goal.invariant-loop-n
invariant-loop-n l = record { low : l.n ≤ l.count; lines : AreLines l.graph l.fn.d l.n (lines_of l.rows.items) }

abbrev pub decreases-loop-n : goal.decreases-loop-n
decreases-loop-n l = l.count - l.n
