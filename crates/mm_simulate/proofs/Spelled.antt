-- The names are tokens of names, and no local is a function.
use Rattle.std.proofs.Common.{◌≡◌, ℕ, zero, suc, ◌+◌, ◌/◌, ◌%◌, List, [], ◌∷◌, ◌++◌, refl, ap, ◌∙◌, subst, arith}
use Rattle.std.specs.Prelude.{Bool, true, false, not, ◌&&◌, nat_eq, filter, if◌then◌else◌, cond}
use Rattle.std.specs.List.{list_all}
use Rattle.std.specs.Char.{is_ascii_digit}
use Rattle.std.specs.Str.{bytes_eq}
use Rattle.std.proofs.lemmas.Slice.Eq.{bytes_eq-Decides}
use Rattle.std.proofs.lemmas.List.Folds.{list_all-append}
use Rattle.mm_c.specs.declared.tree.CKind.TheVariants.{Int, Unsigned, Long, Pointer}
use Rattle.mm_grammar.specs.Grammar.{has}
use Rattle.mm_c.specs.Tokens.{is_word_byte, classes, class_in, class_of_other, is_run, names, are_digits, digits_in, is_number, number_in}
use Rattle.mm_c.specs.WellFormed.{is_name}
use Rattle.mm_c.proofs.Bools.{and_left, and_right, both}
use Rattle.mm_simulate.specs.Names.{digits_onto, numeral, Place, local, temporary, named, function_named}
use Rattle.mm_simulate.proofs.Names.{is_false, numeral_digits}

-- ---- tokens

-- the second byte is a digit
abbrev second_digit : List ℕ → Bool
second_digit [] = false
second_digit (a ∷ []) = false
second_digit (a ∷ b ∷ more) = is_ascii_digit b

-- a byte that is none, and then a digit
abbrev numbered : List ℕ → Bool
numbered [] = false
numbered (a ∷ more) = not (is_ascii_digit a) && second_digit (a ∷ more)

-- no word of the grammar is like that
is_other : (cs : List (List ℕ × ℕ)) (text : List ℕ) → list_all (λ (c : List ℕ × ℕ). not (numbered c.0)) cs ≡ true → numbered text ≡ true → class_in cs text ≡ class_of_other text
is_other [] text e d = refl
is_other (c ∷ cs) text e d =
    ap (λ (b : Bool). elim b as (λ (z : Bool). ℕ) [ true ↦ c.1 | false ↦ class_in cs text ]) (is_false (bytes_eq c.0 text) (λ h.
    let same = (bytes_eq-Decides c.0 text).0 h in
    let off = and_left (not (numbered c.0)) (list_all (λ (c : List ℕ × ℕ). not (numbered c.0)) cs) e in
    let z : not (numbered text) ≡ true = subst (λ t. not (numbered t) ≡ true) same off in
    cc))
    ∙ is_other cs text (and_right (not (numbered c.0)) (list_all (λ (c : List ℕ × ℕ). not (numbered c.0)) cs) e) d

word_digit : (d : ℕ) → is_ascii_digit d ≡ true → is_word_byte d ≡ true
word_digit d e = grind arith

words : (ds : List ℕ) → list_all is_ascii_digit ds ≡ true → list_all is_word_byte ds ≡ true
words [] e = refl
words (d ∷ ds) e = both (is_word_byte d) (list_all is_word_byte ds) (word_digit d (and_left (is_ascii_digit d) (list_all is_ascii_digit ds) e)) (words ds (and_right (is_ascii_digit d) (list_all is_ascii_digit ds) e))

-- a number has a digit
more_digits : (k n : ℕ) (d : ℕ) (more : List ℕ) (c : ℕ) → list_all is_ascii_digit (d ∷ more) ≡ true → second_digit (c ∷ digits_onto k n (d ∷ more)) ≡ true
more_digits zero n d more c e = and_left (is_ascii_digit d) (list_all is_ascii_digit more) e
more_digits (suc k) n d more c e = by (nat_eq (n / 10) 0) (more_digits k (n / 10) (48 + n % 10) (d ∷ more) c (both (is_ascii_digit (48 + n % 10)) (list_all is_ascii_digit (d ∷ more)) digit e))
  where
    digit : is_ascii_digit (48 + n % 10) ≡ true
    digit = grind arith

    by : (b : Bool) → second_digit (c ∷ digits_onto k (n / 10) ((48 + n % 10) ∷ d ∷ more)) ≡ true → second_digit (c ∷ (elim b [ true ↦ (48 + n % 10) ∷ d ∷ more | false ↦ digits_onto k (n / 10) ((48 + n % 10) ∷ d ∷ more) ])) ≡ true
    by true ih = digit
    by false ih = ih

number_second : (n : ℕ) (c : ℕ) (more : List ℕ) → second_digit (c ∷ (numeral n ++ more)) ≡ true
unfolding numeral
number_second n c more = at (numeral n) refl
  where
    some : (n c : ℕ) → second_digit (c ∷ digits_onto (suc n) n []) ≡ true
    some n c = by (nat_eq (n / 10) 0)
      where
        digit : is_ascii_digit (48 + n % 10) ≡ true
        digit = grind arith

        by : (b : Bool) → second_digit (c ∷ (elim b [ true ↦ (48 + n % 10) ∷ [] | false ↦ digits_onto n (n / 10) ((48 + n % 10) ∷ []) ])) ≡ true
        by true = digit
        by false = more_digits n (n / 10) (48 + n % 10) [] c (both (is_ascii_digit (48 + n % 10)) true digit refl)

    at : (ds : List ℕ) → numeral n ≡ ds → second_digit (c ∷ (ds ++ more)) ≡ true
    at [] e = let z : second_digit (c ∷ []) ≡ true = subst (λ ds. second_digit (c ∷ ds) ≡ true) e (some n c) in cc
    at (d ∷ ds) e = subst (λ ds. second_digit (c ∷ ds) ≡ true) e (some n c)

-- a letter, a number and then bytes of words
is_spelled : (c n : ℕ) (more : List ℕ) → is_word_byte c ≡ true → is_ascii_digit c ≡ false → list_all is_word_byte more ≡ true → is_name (c ∷ (numeral n ++ more)) ≡ true
is_spelled c n more w d e = ap (λ k. has k names) (is_other classes (c ∷ (numeral n ++ more)) refl (both (not (is_ascii_digit c)) (second_digit (c ∷ (numeral n ++ more))) (ap not d) (number_second n c more)) ∙ ap (λ (b : Bool). if b then 0 else (if are_digits (digits_in (c ∷ (numeral n ++ more))) && is_number (number_in (c ∷ (numeral n ++ more))) then 14 else 99)) run)
  where
    run : is_run (c ∷ (numeral n ++ more)) ≡ true
    run = rw (w, d) (list_all-append is_word_byte (numeral n) more ∙ both (list_all is_word_byte (numeral n)) (list_all is_word_byte more) (words (numeral n) (numeral_digits n)) e)

append_nil : (xs : List ℕ) → xs ++ [] ≡ xs
append_nil [] = refl
append_nil (x ∷ xs) = ap (λ ys. x ∷ ys) (append_nil xs)

alone : (c n : ℕ) → is_word_byte c ≡ true → is_ascii_digit c ≡ false → is_name (c ∷ numeral n) ≡ true
alone c n w d = subst (λ ds. is_name (c ∷ ds) ≡ true) (append_nil (numeral n)) (is_spelled c n [] w d refl)

-- each name of a local or a temporary is a token
pub place_spelled : (p : Place) → is_name (named p) ≡ true
place_spelled (local x) = alone 118 x refl refl
place_spelled (temporary Int t) = alone 105 t refl refl
place_spelled (temporary Unsigned t) = alone 117 t refl refl
place_spelled (temporary Long t) = alone 108 t refl refl
place_spelled (temporary Pointer t) = alone 112 t refl refl

filter_all : (f : ℕ → Bool) (xs : List ℕ) → list_all f (filter f xs) ≡ true
filter_all f [] = refl
filter_all f (x ∷ xs) = by (f x) refl (filter_all f xs)
  where
    by : (b : Bool) → f x ≡ b → list_all f (filter f xs) ≡ true → list_all f (cond b (x ∷ filter f xs) (filter f xs)) ≡ true
    by true e ih = both (f x) (list_all f (filter f xs)) e ih
    by false e ih = ih

-- and each name of a function
pub function_spelled : (b : Bool) (n : ℕ) (s : List ℕ) → is_name (function_named b n s) ≡ true
function_spelled true n s = refl
function_spelled false n s = is_spelled 102 n (95 ∷ filter is_word_byte s) refl refl (both (is_word_byte 95) (list_all is_word_byte (filter is_word_byte s)) refl (filter_all is_word_byte s))

-- ---- a local is no function

pub no_function : (p : Place) (b : Bool) (n : ℕ) (s : List ℕ) → bytes_eq (named p) (function_named b n s) ≡ false
no_function (local x) true n s = refl
no_function (local x) false n s = refl
no_function (temporary Int t) true n s = refl
no_function (temporary Int t) false n s = refl
no_function (temporary Unsigned t) true n s = refl
no_function (temporary Unsigned t) false n s = refl
no_function (temporary Long t) true n s = refl
no_function (temporary Long t) false n s = refl
no_function (temporary Pointer t) true n s = refl
no_function (temporary Pointer t) false n s = refl
