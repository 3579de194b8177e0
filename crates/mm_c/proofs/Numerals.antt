-- The token of a number: its class, and the number that it is.
use Rattle.std.specs.Prelude.{Bool, true, false, not, ◌&&◌, ◌||◌, ◌==◌, nat_lt, if◌then◌else◌}
use Rattle.std.proofs.Common.{◌≡◌, ℕ, zero, suc, ◌^◌, ◌<◌, List, [], ◌∷◌, ◌++◌, length, get_or, refl, sym, ap, ◌∙◌, arith, append-nil, codes}
use Rattle.std.specs.List.{list_all}
use Rattle.std.specs.Str.{bytes_eq, all_ascii_digits}
use Rattle.std.specs.Fmt.{decimal}
use Rattle.std.specs.Str.Parse.{digits_value}
use Rattle.std.specs.Char.{is_ascii_digit}
use Rattle.std.proofs.lemmas.Bool.{false≢true}
use Rattle.std.proofs.lemmas.Slice.Eq.{bytes_eq-Decides}
use Rattle.std.proofs.lemmas.Fmt.{digits_decimal, digits_value-decimal, decimal_nonempty, first_decimal, decimal_digit}
use Rattle.std.proofs.lemmas.Str.Parse.{IsNumeralModel, numerals_by_value, tells_all_ascii_digits}
use Rattle.mm_grammar.specs.Grammar.{has}
use Rattle.mm_c.specs.declared.tree.CNumber.{CNumber}
use Rattle.mm_c.specs.Tokens.{is_word_byte, classes, class_in, class_of_other, is_run, are_digits, digits_in, has_suffix, number_in, is_number, numbers}
use Rattle.mm_c.specs.WellFormed.{list_every}
use Rattle.mm_c.specs.Printing.{number_text, suffix, separator}
use Rattle.mm_c.proofs.Bools.{and_left, and_right, both}

own : IsNumeralModel (λ ds. all_ascii_digits ds ≡ true) (digits_value 10)
own = numerals_by_value (λ ds. all_ascii_digits ds ≡ true) tells_all_ascii_digits

small : (v : ℕ) (b : Bool) → nat_lt v (if b then 2 ^ 32 else 2 ^ 31) ≡ true → v < 2 ^ 32
small v true h = grind (arith, h)
small v false h = grind (arith, h)

-- ---- the digits and the suffix

digits_suffix : (ds : List ℕ) → digits_in (ds ++ 117 ∷ []) ≡ ds
digits_suffix [] = refl
digits_suffix (b ∷ []) = refl
digits_suffix (b ∷ c ∷ ds) = ap (λ l. b ∷ l) (digits_suffix (c ∷ ds))

suffix_there : (ds : List ℕ) → has_suffix (ds ++ 117 ∷ []) ≡ true
suffix_there [] = refl
suffix_there (b ∷ []) = refl
suffix_there (b ∷ c ∷ ds) = suffix_there (c ∷ ds)

digit_no_suffix : (b : ℕ) → is_ascii_digit b ≡ true → (b == 117) ≡ false
digit_no_suffix b h = grind (arith, h)

digits_alone : (ds : List ℕ) → all_ascii_digits ds ≡ true → (digits_in ds ≡ ds) × (has_suffix ds ≡ false)
digits_alone [] h = (refl, refl)
digits_alone (b ∷ []) h = let e = digit_no_suffix b (and_left (is_ascii_digit b) true h) in (ap (λ (c : Bool). if c then [] else b ∷ []) e, e)
digits_alone (b ∷ c ∷ ds) h = let r = digits_alone (c ∷ ds) (and_right (is_ascii_digit b) (all_ascii_digits (c ∷ ds)) h) in (ap (λ l. b ∷ l) r.0, r.1)

parts : (v : ℕ) (b : Bool) → v < 2 ^ 32 → (digits_in (decimal v ++ suffix b) ≡ decimal v) × (has_suffix (decimal v ++ suffix b) ≡ b)
parts v true h = (digits_suffix (decimal v), suffix_there (decimal v))
parts v false h =
    let d = digits_alone (decimal v) (digits_decimal own v (omega arith)) in
    let e = append-nil (decimal v) in
    (ap digits_in e ∙ d.0, ap has_suffix e ∙ d.1)

pub number_back : (n : CNumber) → is_number n ≡ true → number_in (number_text n) ≡ n
number_back n h =
    let s = small n.value n.is_unsigned h in
    let p = parts n.value n.is_unsigned s in
    let value : digits_value 10 (digits_in (number_text n)) ≡ n.value = ap (digits_value 10) p.0 ∙ digits_value-decimal own n.value (omega arith) in
    λ i. record { value = value i; is_unsigned = p.1 i }

-- ---- the class

starts_digit : List ℕ → Bool
starts_digit [] = false
starts_digit (b ∷ bs) = is_ascii_digit b

starts : (ds tail : List ℕ) → all_ascii_digits ds ≡ true → 0 < length ds → starts_digit (ds ++ tail) ≡ true
unfolding starts_digit
starts [] tail h s = absurd (omega arith)
starts (b ∷ ds) tail h s = and_left (is_ascii_digit b) (all_ascii_digits ds) h

no_run : (text : List ℕ) → starts_digit text ≡ true → is_run text ≡ false
unfolding starts_digit
no_run [] h = refl
no_run (b ∷ bs) h = go (is_word_byte b) (is_ascii_digit b) (list_all is_word_byte bs) h
  where
    go : (x y z : Bool) → y ≡ true → (x && not y && z) ≡ false
    go x y z e = grind (arith, e)

list_digits : (ds : List ℕ) → all_ascii_digits ds ≡ true → list_all is_ascii_digit ds ≡ true
list_digits [] h = refl
list_digits (b ∷ ds) h = both (is_ascii_digit b) (list_all is_ascii_digit ds) (and_left (is_ascii_digit b) (all_ascii_digits ds) h) (list_digits ds (and_right (is_ascii_digit b) (all_ascii_digits ds) h))

led : (ds : List ℕ) → all_ascii_digits ds ≡ true → 0 < length ds → 48 < get_or ds 0 0 → are_digits ds ≡ true
led [] h s l = absurd (omega arith)
led (b ∷ []) h s l = and_left (is_ascii_digit b) true h
led (b ∷ c ∷ ds) h s l =
    let x = and_left (is_ascii_digit b) (all_ascii_digits (c ∷ ds)) h in
    let z = list_digits (c ∷ ds) (and_right (is_ascii_digit b) (all_ascii_digits (c ∷ ds)) h) in
    let y : (b == 48) ≡ false = grind (arith, l) in
    grind (arith, x, y, z)

decimal_led : (v : ℕ) → v < 2 ^ 32 → are_digits (decimal v) ≡ true
decimal_led zero h = ap are_digits (decimal_digit 0 (omega arith))
decimal_led (suc v) h = led (decimal (suc v)) (digits_decimal own (suc v) (omega arith)) (decimal_nonempty (suc v) (omega arith)) (first_decimal (suc v) (omega arith) (omega arith))

other_class : (n : CNumber) → is_number n ≡ true → has (class_of_other (number_text n)) numbers ≡ true
other_class n h =
    let s = small n.value n.is_unsigned h in
    let run = no_run (number_text n) (starts (decimal n.value) (suffix n.is_unsigned) (digits_decimal own n.value (omega arith)) (decimal_nonempty n.value (omega arith))) in
    let digits : are_digits (digits_in (number_text n)) ≡ true = ap are_digits (parts n.value n.is_unsigned s).0 ∙ decimal_led n.value s in
    let number : is_number (number_in (number_text n)) ≡ true = ap is_number (number_back n h) ∙ h in
    ap (λ (b : Bool). has (if b then 0 else (if are_digits (digits_in (number_text n)) && is_number (number_in (number_text n)) then 14 else 99)) numbers) run
    ∙ ap (λ (b : Bool). has (if b then 14 else 99) numbers) (both _ _ digits number)

-- an entry that no number is, or of a class of numbers
abbrev entry_good : List ℕ × ℕ → Bool
entry_good e = not (starts_digit e.0) || has e.1 numbers

classed : (cs : List (List ℕ × ℕ)) (text : List ℕ) → list_every entry_good cs ≡ true → starts_digit text ≡ true → has (class_of_other text) numbers ≡ true → has (class_in cs text) numbers ≡ true
classed [] text g s o = o
classed (c ∷ cs) text g s o = go (bytes_eq c.0 text) refl (classed cs text (and_right (entry_good c) (list_every entry_good cs) g) s o)
  where
    go : (b : Bool) → bytes_eq c.0 text ≡ b → has (class_in cs text) numbers ≡ true → has (elim b as (λ x. ℕ) [ true ↦ c.1 | false ↦ class_in cs text ]) numbers ≡ true
    go true e r =
        let same : c.0 ≡ text = (bytes_eq-Decides c.0 text).0 e in
        let d : starts_digit c.0 ≡ true = ap starts_digit same ∙ s in
        let x = and_left (entry_good c) (list_every entry_good cs) g in
        grind (arith, d, x)
    go false e r = r

pub number_class : (n : CNumber) → is_number n ≡ true → has (class_in classes (number_text n)) numbers ≡ true
unfolding starts_digit
number_class n h = classed classes (number_text n) refl (starts (decimal n.value) (suffix n.is_unsigned) (digits_decimal own n.value (let s = small n.value n.is_unsigned h in omega arith)) (decimal_nonempty n.value (let s = small n.value n.is_unsigned h in omega arith))) (other_class n h)

-- ---- what is behind a number

no_mark : (text c : List ℕ) → starts_digit text ≡ true → starts_digit c ≡ false → bytes_eq text c ≡ false
no_mark text c h k = go (bytes_eq text c) refl
  where
    go : (b : Bool) → bytes_eq text c ≡ b → b ≡ false
    go true e = let same : text ≡ c = (bytes_eq-Decides text c).0 e in absurd (false≢true (sym k ∙ ap starts_digit (sym same) ∙ h))
    go false e = refl

pub number_separator : (n : CNumber) → n.value < 2 ^ 32 → separator (number_text n) ≡ 32
unfolding starts_digit
number_separator n s =
    let d = starts (decimal n.value) (suffix n.is_unsigned) (digits_decimal own n.value (omega arith)) (decimal_nonempty n.value (omega arith)) in
    let a = no_mark (number_text n) (codes ";") d refl in
    let b = no_mark (number_text n) (codes "{") d refl in
    let c = no_mark (number_text n) (codes "}") d refl in
    λ i. if (a i || b i || c i) then 10 else 32
