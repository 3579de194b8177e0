use Rattle.std.proofs.Common.{◌≡◌, length, ◌-◌, ◌≤◌, drop, false}
use Rattle.mm_token.specs.Runs.{behind_line}
use Rattle.mm_token.proofs.piece.past_line.Given as goal

abbrev pub invariant-loop-n : goal.invariant-loop-n
invariant-loop-n l = record { within : l.n ≤ length l.text; same : behind_line l.quoted (drop l.n l.text) ≡ behind_line false l.text }

abbrev pub decreases-loop-n : goal.decreases-loop-n
decreases-loop-n l = length l.text - l.n
