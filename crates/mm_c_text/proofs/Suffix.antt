-- The suffix of a number, from the end of its text; and which texts of digits are numbers.
use Rattle.std.specs.Prelude.{Bool, true, false, ◌==◌, ◌-◌, ◌&&◌, ◌^◌, not, if◌then◌else◌}
use Rattle.std.specs.List.{list_all}
use Rattle.std.specs.Char.{is_ascii_digit, digit_value}
use Rattle.std.specs.Int.{IsInRange}
use Rattle.std.specs.Str.Parse.{AllDigits, digits_value}
use Rattle.std.proofs.Common.{◌≡◌, ℕ, suc, ◌<◌, List, [], ◌∷◌, length, get_or, take, refl, ap, arith}
use Rattle.std.proofs.lemmas.Bool.{ltb-true}
use Rattle.std.proofs.lemmas.Bool.Decides.{nat_tests}
use Rattle.std.proofs.lemmas.Str.{digit_value_digit}
use Rattle.mm_base.specs.Num.{IsDecimal}
use Rattle.mm_c.specs.Tokens.{digits_in, has_suffix, are_digits, is_number, number_in}
use Rattle.mm_c.proofs.Bools.{and_left, and_right}

pub suffix_none : (text : List ℕ) → length text ≡ 0 → has_suffix text ≡ false
suffix_none [] h = refl
suffix_none (b ∷ bs) h = absurd (omega arith)

pub suffix_last : (text : List ℕ) → 0 < length text → has_suffix text ≡ (get_or text (length text - 1) 0 == 117)
suffix_last [] h = absurd (omega arith)
suffix_last (b ∷ []) h = refl
suffix_last (b ∷ c ∷ bs) h =
    let e : suc (suc (length bs)) - 1 ≡ suc (suc (length bs) - 1) = omega arith in
    rw e (suffix_last (c ∷ bs) (omega arith))

pub digits_all : (text : List ℕ) → has_suffix text ≡ false → digits_in text ≡ text
digits_all [] h = refl
digits_all (b ∷ []) h = ap (λ (x : Bool). if x then [] else b ∷ []) h
digits_all (b ∷ c ∷ bs) h = ap (λ l. b ∷ l) (digits_all (c ∷ bs) h)

pub digits_front : (text : List ℕ) → has_suffix text ≡ true → digits_in text ≡ take (length text - 1) text
digits_front [] h = refl
digits_front (b ∷ []) h = ap (λ (x : Bool). if x then [] else b ∷ []) h
digits_front (b ∷ c ∷ bs) h =
    let e : suc (suc (length bs)) - 1 ≡ suc (suc (length bs) - 1) = omega arith in
    rw e (ap (λ l. b ∷ l) (digits_front (c ∷ bs) h))

digit_below : (c : ℕ) → is_ascii_digit c ≡ true → digit_value c < 10
digit_below c h = let r : IsInRange 48 57 c = grind (arith, nat_tests) in let e = digit_value_digit c r in grind (arith, nat_tests)

all_digits : (ds : List ℕ) → list_all is_ascii_digit ds ≡ true → AllDigits 10 ds
all_digits [] h = tt
all_digits (d ∷ ds) h = (digit_below d (and_left (is_ascii_digit d) (list_all is_ascii_digit ds) h), all_digits ds (and_right (is_ascii_digit d) (list_all is_ascii_digit ds) h))

are_all : (ds : List ℕ) → are_digits ds ≡ true → (0 < length ds) × AllDigits 10 ds
are_all [] h = absurd (cc)
are_all (d ∷ []) h = (omega arith, (digit_below d h, tt))
are_all (d ∷ c ∷ ds) h =
    let one = and_left (is_ascii_digit d && not (d == 48)) (list_all is_ascii_digit (c ∷ ds)) h in
    (omega arith, (digit_below d (and_left (is_ascii_digit d) (not (d == 48)) one), all_digits (c ∷ ds) (and_right (is_ascii_digit d && not (d == 48)) (list_all is_ascii_digit (c ∷ ds)) h)))

below_32 : (v : ℕ) (u : Bool) → v < (if u then 2 ^ 32 else 2 ^ 31) → v < 2 ^ 32
below_32 v true h = h
below_32 v false h = omega arith

-- what is a number is the value of digits
pub number_is_decimal : (text : List ℕ) → (are_digits (digits_in text) && is_number (number_in text)) ≡ true → IsDecimal (digits_in text)
number_is_decimal text h =
    let d = are_all (digits_in text) (and_left (are_digits (digits_in text)) (is_number (number_in text)) h) in
    record { some = d.0; digits = d.1; fits = below_32 (digits_value 10 (digits_in text)) (has_suffix text) (ltb-true _ _ (and_right (are_digits (digits_in text)) (is_number (number_in text)) h)) }
