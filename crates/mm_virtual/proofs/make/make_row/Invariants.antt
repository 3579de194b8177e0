use Rattle.std.proofs.Common.{◌-◌, ◌≤◌, length}
use Rattle.mm_virtual.specs.Kept.{IsLineOf, line_of}
use Rattle.mm_virtual.proofs.make.make_row.Given as goal

abbrev pub invariant-loop-k : goal.invariant-loop-k
invariant-loop-k l = record { low : l.k ≤ length l.members; line : IsLineOf l.graph l.d l.n l.k (line_of l.row) }

abbrev pub decreases-loop-k : goal.decreases-loop-k
decreases-loop-k l = length l.members - l.k
