use Rattle.std.proofs.Common.{◌≡◌}
use Rattle.mm_virtual.proofs.Searching.{IsSearch, left_of}
use Rattle.mm_virtual.proofs.same.same_in.Given as goal

abbrev pub invariant-loop-at : goal.invariant-loop-at
invariant-loop-at l = IsSearch l.members l.m l.at

abbrev pub decreases-loop-at : goal.decreases-loop-at
decreases-loop-at l = left_of l.members l.at
