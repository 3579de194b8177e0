-- Names among names.
use Rattle.std.specs.Prelude.{Bool, true, false, ◌||◌}
use Rattle.std.proofs.Common.{◌≡◌, ℕ, List, [], ◌∷◌, ◌++◌, Option, Some, None, map, refl, sym, ◌∙◌}
use Rattle.std.proofs.lemmas.Slice.Eq.{bytes_eq-Decides}
use Rattle.std.specs.Str.{bytes_eq}
use Rattle.mm_c.specs.WellFormed.{Table, Entry, entry_in, is_in}

pub bytes_sym : (x y : List ℕ) → bytes_eq x y ≡ bytes_eq y x
bytes_sym x y = go (bytes_eq x y) (bytes_eq y x) refl refl
  where
    go : (a b : Bool) → bytes_eq x y ≡ a → bytes_eq y x ≡ b → a ≡ b
    go true true e f = refl
    go false false e f = refl
    go true false e f = sym ((bytes_eq-Decides y x).1 (sym ((bytes_eq-Decides x y).0 e))) ∙ f
    go false true e f = sym e ∙ (bytes_eq-Decides x y).1 (sym ((bytes_eq-Decides y x).0 f))

pub named_some : (t : Table) (x : List ℕ) (e : Entry) → Some e ≡ entry_in t x → is_in (map (λ (y : List ℕ × Entry). y.0) t) x ≡ true
named_some [] x e h = absurd (cc)
named_some (y ∷ t) x e h = go (bytes_eq y.0 x) (bytes_eq x y.0) (bytes_sym y.0 x) (named_some t x e) h
  where
    go : (a b : Bool) → a ≡ b → (Some e ≡ entry_in t x → is_in (map (λ (y : List ℕ × Entry). y.0) t) x ≡ true) → Some e ≡ elim a as (λ z. Option Entry) [ true ↦ Some y.1 | false ↦ entry_in t x ] → (b || is_in (map (λ (y : List ℕ × Entry). y.0) t) x) ≡ true
    go true true s r k = refl
    go true false s r k = absurd (cc)
    go false true s r k = refl
    go false false s r k = r k

pub named_none : (t : Table) (x : List ℕ) → None ≡ entry_in t x → is_in (map (λ (y : List ℕ × Entry). y.0) t) x ≡ false
named_none [] x h = refl
named_none (y ∷ t) x h = go (bytes_eq y.0 x) (bytes_eq x y.0) (bytes_sym y.0 x) (named_none t x) h
  where
    go : (a b : Bool) → a ≡ b → (None ≡ entry_in t x → is_in (map (λ (y : List ℕ × Entry). y.0) t) x ≡ false) → None ≡ elim a as (λ z. Option Entry) [ true ↦ Some y.1 | false ↦ entry_in t x ] → (b || is_in (map (λ (y : List ℕ × Entry). y.0) t) x) ≡ false
    go true b s r k = absurd (cc)
    go false true s r k = absurd (cc)
    go false false s r k = r k

pub is_in-append : (as_ bs : List (List ℕ)) (x : List ℕ) → is_in (as_ ++ bs) x ≡ (is_in as_ x || is_in bs x)
is_in-append [] bs x = refl
is_in-append (a ∷ as_) bs x = go (bytes_eq x a) (is_in-append as_ bs x)
  where
    go : (b : Bool) → is_in (as_ ++ bs) x ≡ (is_in as_ x || is_in bs x) → (b || is_in (as_ ++ bs) x) ≡ ((b || is_in as_ x) || is_in bs x)
    go true h = refl
    go false h = h
