use Rattle.std.proofs.Common.{length, ◌-◌, ◌<◌, ◌≤◌, suc, IsTrue, ℕ, get_or}
use Rattle.mm_token.specs.Pieces.{ends_not}
use Rattle.mm_token.proofs.piece.comment_len.Given as goal

abbrev pub invariant-loop-n : goal.invariant-loop-n
invariant-loop-n l = record { within : l.n ≤ length l.text; none : (k : ℕ) → k < l.n → IsTrue (ends_not (get_or l.text k 0) (get_or l.text (suc k) 0)) }

abbrev pub decreases-loop-n : goal.decreases-loop-n
decreases-loop-n l = length l.text - l.n
