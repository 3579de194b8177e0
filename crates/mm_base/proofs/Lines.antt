-- The lines of a text, one after another.
use Rattle.std.proofs.Common.{◌≡◌, ℕ, ℤ, zero, suc, ◌+◌, ◌-◌, ◌<◌, ◌≤◌, Bool, cond, nat_lt, length, List, [], ◌∷◌, ◌++◌, map, take, drop, true, false, get_or, Some, None, refl, sym, ap, ◌∙◌, append_assoc, arith}
use Rattle.std.specs.List.{All, position, position_or_len}
use Rattle.std.proofs.lemmas.List.{take_rest, map-append}
use Rattle.std.proofs.lemmas.List.Elements.{All-push}
use Rattle.std.proofs.lemmas.List.Sums.{fails_before_first}
use Rattle.std.proofs.lemmas.List.Quantifiers.{position-Some}
use Rattle.mm_base.specs.Input.{lines, begins, is_end, line_value, IsIntLine}

-- no byte of a front is LF, and LF follows it
pub lines_cut : (text : List ℕ) (n : ℕ) → n < length text → ((k : ℕ) → k < n → is_end (get_or text k 0) ≡ false) → is_end (get_or text n 0) ≡ true → lines text ≡ take n text ∷ lines (drop (suc n) text)
lines_cut [] n h a e = absurd (omega (arith, h))
lines_cut (b ∷ bs) zero h a e = ap (λ t. begins t b (lines bs)) e
lines_cut (b ∷ bs) (suc n) h a e =
    ap (λ t. begins t b (lines bs)) (a 0 (omega arith))
    ∙ ap (begins false b) (lines_cut bs n (omega (arith, h)) (λ k l. a (suc k) (omega (arith, l))) e)

pub lines_last : (b : ℕ) (bs : List ℕ) → ((k : ℕ) → k < suc (length bs) → is_end (get_or (b ∷ bs) k 0) ≡ false) → lines (b ∷ bs) ≡ (b ∷ bs) ∷ []
lines_last b [] a = ap (λ t. begins t b []) (a 0 (omega arith))
lines_last b (c ∷ cs) a =
    ap (λ t. begins t b (lines (c ∷ cs))) (a 0 (omega arith))
    ∙ ap (begins false b) (lines_last c cs (λ k l. a (suc k) (omega (arith, l))))

pub lines_only : (text : List ℕ) → 0 < length text → ((k : ℕ) → k < length text → is_end (get_or text k 0) ≡ false) → lines text ≡ text ∷ []
lines_only [] h a = absurd (omega (arith, h))
lines_only (b ∷ bs) h a = lines_last b bs a

at_end : (b : Bool) (n : ℕ) → cond b (Some n) None ≡ None → b ≡ false
at_end false n e = refl
at_end true n e = absurd (grind (arith, e))

pub lines_none : (text : List ℕ) → 0 < length text → position is_end text ≡ None → lines text ≡ text ∷ []
lines_none text h e =
    let past = at_end (nat_lt (position_or_len is_end text) (length text)) (position_or_len is_end text) e in
    let le : length text ≤ position_or_len is_end text = grind arith in
    lines_only text h (λ k l. fails_before_first is_end text k 0 (omega (arith, l, le)))

pub lines_some : (text : List ℕ) (n : ℕ) → position is_end text ≡ Some n → lines text ≡ take n text ∷ lines (take (length text - (n + 1)) (drop (n + 1) text))
lines_some text n e =
    let at = position-Some is_end text n 0 e in
    let same : suc n ≡ n + 1 = omega arith in
    lines_cut text n at.0 at.2 at.1
    ∙ ap (λ m. take n text ∷ lines (drop m text)) same
    ∙ ap (λ r. take n text ∷ lines r) (sym (take_rest text (n + 1)))

-- one more line that is an `int`
pub numbers_more : (bytes line rest : List ℕ) (numbers : List ℤ) (n : ℤ) (seen : List (List ℕ)) → lines bytes ≡ seen ++ line ∷ lines rest → All IsIntLine seen → numbers ≡ map line_value seen → IsIntLine line → n ≡ line_value line → (after : List (List ℕ)) × (lines bytes ≡ after ++ lines rest) × All IsIntLine after × (numbers ++ n ∷ [] ≡ map line_value after)
numbers_more bytes line rest numbers n seen cut each values is value = (
  seen ++ line ∷ [],
  cut ∙ sym (append_assoc seen (line ∷ []) (lines rest)),
  All-push IsIntLine seen line each is,
  ap (λ ns. ns ++ n ∷ []) values ∙ ap (λ v. map line_value seen ++ v ∷ []) value ∙ sym (map-append line_value seen (line ∷ [])),
)
