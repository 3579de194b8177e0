-- A name is a run that is no word of the grammar.
use Rattle.std.specs.Prelude.{Bool, true, false, not, ◌&&◌, ◌||◌, codes}
use Rattle.std.proofs.Common.{◌≡◌, ℕ, List, [], ◌∷◌, refl, sym, ap, ◌∙◌}
use Rattle.std.proofs.lemmas.Slice.Eq.{bytes_eq-Decides}
use Rattle.std.specs.Str.{bytes_eq}
use Rattle.mm_grammar.specs.Grammar.{has}
use Rattle.mm_c.specs.Tokens.{is_run, are_digits, digits_in, is_number, number_in, classes, class_in, class_of_other, names}
use Rattle.mm_c.specs.WellFormed.{is_name, list_every}
use Rattle.mm_c.proofs.Bools.{and_left, and_right}
use Rattle.mm_c_names.specs.Words.{is_type_word, is_item_word, is_stmt_word}

abbrev pub is_reserved : List ℕ → Bool
is_reserved x = is_type_word x || is_item_word x || is_stmt_word x

abbrev any_in : List (List ℕ × ℕ) → List ℕ → Bool
any_in [] x = false
any_in (c ∷ cs) x = bytes_eq c.0 x || any_in cs x

or_case : {P : Type 0} (a b : Bool) → (a || b) ≡ true → (a ≡ true → P) → (b ≡ true → P) → P
or_case true b h f g = f refl
or_case false b h f g = g h

-- ---- each word has a class

abbrev Known : List ℕ → Type 0
Known x = any_in classes x ≡ true

known : (x w : List ℕ) → Known w → bytes_eq x w ≡ true → Known x
known x w k e = ap (any_in classes) ((bytes_eq-Decides x w).0 e) ∙ k

abbrev one_from : Bool → List ℕ → List (List ℕ) → Bool
one_from b x [] = b
one_from b x (w ∷ ws) = one_from (b || bytes_eq x w) x ws

one_known : (b : Bool) (x : List ℕ) (ws : List (List ℕ)) → list_every (any_in classes) ws ≡ true → (b ≡ true → Known x) → one_from b x ws ≡ true → Known x
one_known b x [] k f h = f h
one_known b x (w ∷ ws) k f h = one_known (b || bytes_eq x w) x ws (and_right (any_in classes w) (list_every (any_in classes) ws) k) (λ e. or_case b (bytes_eq x w) e f (known x w (and_left (any_in classes w) (list_every (any_in classes) ws) k))) h

type_known : (x : List ℕ) → is_type_word x ≡ true → Known x
type_known x h = one_known (bytes_eq x (codes "void")) x (codes "int" ∷ codes "unsigned" ∷ codes "long" ∷ codes "char" ∷ codes "short" ∷ []) refl (known x (codes "void") refl) h

item_known : (x : List ℕ) → is_item_word x ≡ true → Known x
item_known x h = one_known (bytes_eq x (codes "typedef")) x (codes "static" ∷ codes "const" ∷ codes "inline" ∷ codes "extern" ∷ []) refl (known x (codes "typedef") refl) h

stmt_known : (x : List ℕ) → is_stmt_word x ≡ true → Known x
stmt_known x h = one_known (bytes_eq x (codes "if")) x (codes "else" ∷ codes "while" ∷ codes "break" ∷ codes "continue" ∷ codes "return" ∷ []) refl (known x (codes "if") refl) h

reserved_known : (x : List ℕ) → is_reserved x ≡ true → Known x
reserved_known x h = or_case (is_type_word x || is_item_word x) (is_stmt_word x) h (λ h1. or_case (is_type_word x) (is_item_word x) h1 (type_known x) (item_known x)) (stmt_known x)

-- ---- the classes of names

abbrev agree : Bool → Bool → Bool
agree true b = b
agree false b = not b

agree_same : (a b : Bool) → agree a b ≡ true → a ≡ b
agree_same true true h = refl
agree_same true false h = cc
agree_same false true h = cc
agree_same false false h = refl

abbrev tells : List ℕ × ℕ → Bool
tells c = agree (has c.1 names) (is_run c.0 && not (is_reserved c.0))

other_named : (x : List ℕ) (r d : Bool) → is_run x ≡ r → (are_digits (digits_in x) && is_number (number_in x)) ≡ d → has (class_of_other x) names ≡ is_run x
other_named x true d e f = rw e refl
other_named x false true e f = rw e (rw f refl)
other_named x false false e f = rw e (rw f refl)

not_reserved : (x : List ℕ) (b : Bool) → is_reserved x ≡ b → (is_reserved x ≡ true → false ≡ true) → (is_run x && not (is_reserved x)) ≡ is_run x
not_reserved x true e h = absurd (let z = h e in cc)
not_reserved x false e h = rw e (and_true (is_run x))
  where
    and_true : (a : Bool) → (a && true) ≡ a
    and_true true = refl
    and_true false = refl

named_in : (cs : List (List ℕ × ℕ)) (x : List ℕ) → list_every tells cs ≡ true → (is_reserved x ≡ true → any_in cs x ≡ true) → has (class_in cs x) names ≡ (is_run x && not (is_reserved x))
named_in [] x t h = other_named x _ _ refl refl ∙ sym (not_reserved x _ refl h)
named_in (c ∷ cs) x t h = go (bytes_eq c.0 x) refl h (λ k. named_in cs x (and_right (tells c) (list_every tells cs) t) k)
  where
    go : (b : Bool) → bytes_eq c.0 x ≡ b → (is_reserved x ≡ true → (b || any_in cs x) ≡ true) → ((is_reserved x ≡ true → any_in cs x ≡ true) → has (class_in cs x) names ≡ (is_run x && not (is_reserved x)))
        → has (elim b as (λ z. ℕ) [ true ↦ c.1 | false ↦ class_in cs x ]) names ≡ (is_run x && not (is_reserved x))
    go true e k r = agree_same _ _ (and_left (tells c) (list_every tells cs) t) ∙ ap (λ y. is_run y && not (is_reserved y)) ((bytes_eq-Decides c.0 x).0 e)
    go false e k r = r k

pub is_name_run : (x : List ℕ) → is_name x ≡ (is_run x && not (is_reserved x))
is_name_run x = named_in classes x refl (reserved_known x)
