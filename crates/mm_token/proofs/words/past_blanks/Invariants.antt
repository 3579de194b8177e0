use Rattle.std.proofs.Common.{◌≡◌, length, ◌-◌, ◌≤◌, drop}
use Rattle.mm_token.specs.Words.{past_blanks}
use Rattle.mm_token.proofs.words.past_blanks.Given as goal

abbrev pub invariant-loop-n : goal.invariant-loop-n
invariant-loop-n l = record { within : l.n ≤ length l.text; same : past_blanks (drop l.n l.text) ≡ past_blanks l.text }

abbrev pub decreases-loop-n : goal.decreases-loop-n
decreases-loop-n l = length l.text - l.n
