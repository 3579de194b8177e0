use Rattle.std.proofs.Common.{◌≤◌, ◌∙◌, sym, subst, length, take, drop}
use Rattle.std.proofs.lemmas.List.Sums.{prefix_len-le-length}
use Rattle.mm_c.specs.Tokens.{is_word_byte}
use Rattle.mm_c_text.specs.Scan.{IsFirst}
use Rattle.mm_c_text.proofs.Firsts.{word_first}
use Rattle.mm_c_text.proofs.scan.token_length.Goals as goal

pub returns-then-is_word_byte-clause-within : goal.returns-then-is_word_byte-clause-within
returns-then-is_word_byte-clause-within c =
    subst (λ n. n ≤ length c.args.text.now) (sym c.word_length.ensures) (prefix_len-le-length is_word_byte c.args.text.now)

pub returns-then-is_word_byte-clause-first : goal.returns-then-is_word_byte-clause-first
returns-then-is_word_byte-clause-first c =
    subst (λ n. IsFirst (take n c.args.text.now) (drop n c.args.text.now)) (sym c.word_length.ensures)
    (word_first c.args.text.now c.requires.some c.requires.dark (sym c.is_word_byte.ensures ∙ c.if-is_word_byte.true))
