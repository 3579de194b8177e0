-- Names are ASCII, and what is of a number's class is a number.
use Rattle.std.specs.Prelude.{Bool, true, false, not, ◌&&◌, ◌||◌, if◌then◌else◌}
use Rattle.std.specs.List.{list_all}
use Rattle.std.specs.Char.{is_ascii_digit}
use Rattle.std.specs.Str.{bytes_eq, IsAscii, IsUtf8}
use Rattle.std.proofs.Common.{◌≡◌, ℕ, zero, suc, ◌<◌, List, [], ◌∷◌, IsTrue, refl, sym, ap, ◌∙◌, arith, subst}
use Rattle.std.proofs.lemmas.Bool.Decides.{nat_tests}
use Rattle.std.proofs.lemmas.Slice.Eq.{bytes_eq-Decides}
use Rattle.std.proofs.lemmas.Str.{IsUtf8-from_ascii}
use Rattle.mm_grammar.specs.Grammar.{has}
use Rattle.mm_c.specs.Tokens.{is_word_byte, is_run, are_digits, digits_in, is_number, number_in, classes, class_in, class_of_other, names, numbers}
use Rattle.mm_c.proofs.Bools.{and_left, and_right}

-- what holds of a class's texts, where it holds of each in the table and of all others
abbrev all_in : (List ℕ → Bool) → List ℕ → List (List ℕ × ℕ) → Bool
all_in test cs [] = true
all_in test cs (e ∷ es) = (not (has e.1 cs) || test e.0) && all_in test cs es

or_false : (a b : Bool) → (not a || b) ≡ true → a ≡ true → b ≡ true
or_false true b h e = h
or_false false b h e = absurd (cc)

holds_in : (test : List ℕ → Bool) (cs : List ℕ) (es : List (List ℕ × ℕ)) (text : List ℕ) → all_in test cs es ≡ true → (IsTrue (has (class_of_other text) cs) → test text ≡ true) → IsTrue (has (class_in es text) cs) → test text ≡ true
holds_in test cs [] text a o h = o h
holds_in test cs (e ∷ es) text a o h = go (holds_in test cs es text (and_right (not (has e.1 cs) || test e.0) (all_in test cs es) a) o) (bytes_eq e.0 text) refl
  where
    go : (IsTrue (has (class_in es text) cs) → test text ≡ true) → (b : Bool) → bytes_eq e.0 text ≡ b → test text ≡ true
    go f true k =
        let same : e.0 ≡ text = (bytes_eq-Decides e.0 text).0 k in
        let class : class_in (e ∷ es) text ≡ e.1 = ap (λ (x : Bool). elim x [ true ↦ e.1 | false ↦ class_in es text ]) k in
        ap test (sym same) ∙ or_false (has e.1 cs) (test e.0) (and_left (not (has e.1 cs) || test e.0) (all_in test cs es) a) (subst (λ n. IsTrue (has n cs)) class h)
    go f false k =
        let class : class_in (e ∷ es) text ≡ class_in es text = ap (λ (x : Bool). elim x [ true ↦ e.1 | false ↦ class_in es text ]) k in
        f (subst (λ n. IsTrue (has n cs)) class h)

-- ---- names

words_only : List ℕ → Bool
words_only text = list_all is_word_byte text

other_name : (text : List ℕ) → IsTrue (has (class_of_other text) names) → list_all is_word_byte text ≡ true
other_name text h = go (is_run text) refl
  where
    inner : (text : List ℕ) → is_run text ≡ true → list_all is_word_byte text ≡ true
    inner [] k = refl
    inner (b ∷ bs) k =
        let word = and_left (is_word_byte b) (not (is_ascii_digit b)) (and_left (is_word_byte b && not (is_ascii_digit b)) (list_all is_word_byte bs) k) in
        let rest = and_right (is_word_byte b && not (is_ascii_digit b)) (list_all is_word_byte bs) k in
        ap (λ (x : Bool). x && list_all is_word_byte bs) word ∙ rest

    no_name : (x : Bool) → IsTrue (has (if x then 14 else 99) names) → ⊥
    no_name true k = absurd (cc)
    no_name false k = absurd (cc)

    go : (x : Bool) → is_run text ≡ x → list_all is_word_byte text ≡ true
    go true k = inner text k
    go false k = absurd (no_name (are_digits (digits_in text) && is_number (number_in text)) (subst (λ (x : Bool). IsTrue (has (if x then 0 else (if are_digits (digits_in text) && is_number (number_in text) then 14 else 99)) names)) k h))

name_words : (text : List ℕ) → IsTrue (has (class_in classes text) names) → list_all is_word_byte text ≡ true
name_words text h = holds_in (λ t. list_all is_word_byte t) names classes text refl (other_name text) h

word_below : (b : ℕ) → is_word_byte b ≡ true → b < 128
word_below b h = grind (arith, nat_tests)

words_ascii : (text : List ℕ) → list_all is_word_byte text ≡ true → IsAscii text
words_ascii [] h zero = omega arith
words_ascii [] h (suc i) = omega arith
words_ascii (b ∷ bs) h zero = word_below b (and_left (is_word_byte b) (list_all is_word_byte bs) h)
words_ascii (b ∷ bs) h (suc i) = words_ascii bs (and_right (is_word_byte b) (list_all is_word_byte bs) h) i

pub name_utf8 : (text : List ℕ) → IsTrue (has (class_in classes text) names) → IsUtf8 text
name_utf8 text h = IsUtf8-from_ascii text (words_ascii text (name_words text h))

-- ---- numbers

other_number : (text : List ℕ) → IsTrue (has (class_of_other text) numbers) → (are_digits (digits_in text) && is_number (number_in text)) ≡ true
other_number text h = go (is_run text) (are_digits (digits_in text) && is_number (number_in text)) refl refl
  where
    go : (x y : Bool) → is_run text ≡ x → (are_digits (digits_in text) && is_number (number_in text)) ≡ y → (are_digits (digits_in text) && is_number (number_in text)) ≡ true
    go x true k l = l
    go true false k l = let j : IsTrue (has 0 numbers) = subst (λ (x : Bool). IsTrue (has (if x then 0 else (if are_digits (digits_in text) && is_number (number_in text) then 14 else 99)) numbers)) k h in absurd (cc)
    go false false k l =
        let i : IsTrue (has (if are_digits (digits_in text) && is_number (number_in text) then 14 else 99) numbers) = subst (λ (x : Bool). IsTrue (has (if x then 0 else (if are_digits (digits_in text) && is_number (number_in text) then 14 else 99)) numbers)) k h in
        let j : IsTrue (has 99 numbers) = subst (λ (x : Bool). IsTrue (has (if x then 14 else 99) numbers)) l i in
        absurd (cc)

pub number_is : (text : List ℕ) → IsTrue (has (class_in classes text) numbers) → (are_digits (digits_in text) && is_number (number_in text)) ≡ true
number_is text h = holds_in (λ t. are_digits (digits_in t) && is_number (number_in t)) numbers classes text refl (other_number text) h
