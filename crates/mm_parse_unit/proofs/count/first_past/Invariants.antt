use Rattle.std.proofs.Common.{◌-◌, length}
use Rattle.mm_parse_unit.proofs.Counted.{Counted}
use Rattle.mm_parse_unit.proofs.count.first_past.Given as goal

abbrev pub invariant-loop-count : goal.invariant-loop-count
invariant-loop-count l = Counted l.tokens l.count l.at

abbrev pub decreases-loop-count : goal.decreases-loop-count
decreases-loop-count l = length l.tokens - l.at
