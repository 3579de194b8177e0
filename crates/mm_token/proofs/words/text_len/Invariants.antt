use Rattle.std.proofs.Common.{length, ◌-◌, ◌<◌, ◌≤◌, IsTrue, ℕ, get_or}
use lib.Utf8.{scalar}
use Rattle.mm_token.proofs.words.text_len.Given as goal

abbrev pub invariant-loop-n : goal.invariant-loop-n
invariant-loop-n l = record { within : l.n ≤ length l.text; passes : (k : ℕ) → k < l.n → IsTrue (scalar (get_or l.text k 0)) }

abbrev pub decreases-loop-n : goal.decreases-loop-n
decreases-loop-n l = length l.text - l.n
