use Rattle.std.proofs.Common.{◌≡◌, length, ◌≤◌, drop}
use Rattle.mm_token.specs.Words.{past_word}
use Rattle.mm_token.proofs.words.past_word.Given as goal

abbrev pub invariant-loop-w : goal.invariant-loop-w
invariant-loop-w l = record { within : l.n ≤ length l.text; count : l.n ≡ l.w-index; same : past_word (drop l.w-index l.word) (drop l.n l.text) ≡ past_word l.word l.text }
