use Rattle.std.proofs.Common.{◌≡◌, ◌≤◌, ◌+◌, ◌-◌, take, length}
use Rattle.mm_parse_expr.specs.Longest.{count_from}
use Rattle.mm_parse_expr.proofs.limit.room.Given as goal

abbrev pub invariant-loop-room : goal.invariant-loop-room
invariant-loop-room l = record { counted : count_from 0 (take l.at l.tokens) ≡ count_from 0 (take l.before l.tokens) + (1000 - l.room); most : l.room ≤ 1000; within : l.before ≤ length l.tokens }

abbrev pub decreases-loop-room : goal.decreases-loop-room
decreases-loop-room l = l.room
