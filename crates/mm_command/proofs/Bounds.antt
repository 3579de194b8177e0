-- Which words are bounds.
use Rattle.std.proofs.Common.{◌≡◌, ℕ, zero, suc, ◌<◌, ◌≤◌, Bool, true, false, List, length, get_or, Some, None, refl, sym, ap, ◌∙◌, arith, subst}
use Rattle.std.specs.Prelude.{nat_lt, nat_le, ◌&&◌, if◌then◌else◌}
use Rattle.std.specs.Str.{bytes_eq}
use Rattle.std.specs.Str.Parse.{AllDigits, digits_value}
use Rattle.std.specs.Fmt.{decimal}
use Rattle.std.proofs.lemmas.Bool.{and_parts, and_from, lt-ltb, le-leb, ltb-true, leb-true}
use Rattle.std.proofs.lemmas.Fmt.{decimal-digits_value, decimal_is_IsNumeral, decimal_digit, first_decimal}
use Rattle.std.proofs.lemmas.Str.Parse.{numerals_by_value, tells_digits}
use Rattle.std.proofs.lemmas.Slice.Eq.{bytes_eq-Decides}
use Rattle.mm_base.specs.Num.{IsDecimal}
use Rattle.mm_base.specs.declared.limits.TheConstants.{MAX_STEPS}
use Rattle.mm_command.specs.Command.{is_bound, bound_of}

picked : (b : Bool) (n : ℕ) → b ≡ true → (if b then Some n else None) ≡ Some n
picked true n h = refl
picked false n h = absurd (let x : ⊥ = cc in x)

left_out : (b : Bool) (n : ℕ) → (b ≡ true → ⊥) → (if b then Some n else None) ≡ None
left_out true n h = absurd (h refl)
left_out false n h = refl

-- what a bound is, by its parts
pub record Parts (w : List ℕ) (n : ℕ) : Type 0 where
  pub written : decimal n ≡ w
  pub some : 0 < n
  pub within : n ≤ MAX_STEPS

parts : (w : List ℕ) (n : ℕ) → is_bound w n ≡ true → Parts w n
parts w n h =
    let a = and_parts (bytes_eq (decimal n) w) (nat_lt 0 n && nat_le n MAX_STEPS) h in
    let b = and_parts (nat_lt 0 n) (nat_le n MAX_STEPS) a.1 in
    record {
      written = (bytes_eq-Decides (decimal n) w).0 a.0;
      some = ltb-true 0 n b.0;
      within = leb-true n MAX_STEPS b.1;
    }

join : (w : List ℕ) (n : ℕ) → Parts w n → is_bound w n ≡ true
join w n p = and_from (bytes_eq (decimal n) w) (nat_lt 0 n && nat_le n MAX_STEPS) ((bytes_eq-Decides (decimal n) w).1 p.written)
    (and_from (nat_lt 0 n) (nat_le n MAX_STEPS) (lt-ltb 0 n p.some) (le-leb n MAX_STEPS p.within))

-- where no parts are, no bound is said
pub says_none : (w : List ℕ) → (Parts w (digits_value 10 w) → ⊥) → bound_of w ≡ None
says_none w h = left_out (is_bound w (digits_value 10 w)) (digits_value 10 w) (λ e. h (parts w (digits_value 10 w) e))

-- what is written as a bound is digits
pub is_decimal : (w : List ℕ) (n : ℕ) → Parts w n → IsDecimal w
is_decimal w n p =
    let d = decimal_is_IsNumeral n (omega (arith, p.within)) in
    let digits : AllDigits 10 w = subst (AllDigits 10) p.written d.0.1 in
    let some : 0 < length w = subst (λ (x : List ℕ). 0 < length x) p.written d.0.0 in
    let value : digits_value 10 w ≡ n = ap (digits_value 10) (sym p.written) ∙ d.1 in
    record { some = some; digits = digits; fits = omega (arith, p.within, value) }

-- no 0 stands in front
pub no_zero : (w : List ℕ) (n : ℕ) → Parts w n → 48 < get_or w 0 0
no_zero w n p = subst (λ (x : List ℕ). 48 < get_or x 0 0) p.written (first_decimal n p.some (omega (arith, p.within)))

-- digits without a 0 in front say their value
written : (w : List ℕ) → IsDecimal w → (get_or w 0 0 ≡ 48 → ⊥) → decimal (digits_value 10 w) ≡ w
written w d z = decimal-digits_value (numerals_by_value (AllDigits 10) tells_digits) w d.digits d.some (λ e. absurd (z e)) (omega (arith, d.fits))

above : (w : List ℕ) (n : ℕ) → decimal n ≡ w → (get_or w 0 0 ≡ 48 → ⊥) → 0 < n
above w zero e z = absurd (z (ap (λ (x : List ℕ). get_or x 0 0) (sym e ∙ decimal_digit 0 (omega arith))))
above w (suc n) e z = omega arith

pub says : (w : List ℕ) → IsDecimal w → (get_or w 0 0 ≡ 48 → ⊥) → digits_value 10 w ≤ MAX_STEPS → bound_of w ≡ Some (digits_value 10 w)
says w d z le = picked (is_bound w (digits_value 10 w)) (digits_value 10 w)
    (join w (digits_value 10 w) (record { written = written w d z; some = above w (digits_value 10 w) (written w d z) z; within = le }))
