-- One more token behind tokens.
use Rattle.std.proofs.Common.{◌≡◌, ℕ, Bool, true, false, ◌||◌, cond, List, [], ◌∷◌, ◌++◌, refl, ap, sym, ◌∙◌}
use Rattle.std.specs.List.{list_any}
use Rattle.mm_token.specs.declared.token.Token.{Token}
use Rattle.mm_token.specs.Tokens.{is_class_key, awaits_class, is_class_name}

pub awaits_last : (ts : List Token) (t : Token) → awaits_class (ts ++ t ∷ []) ≡ is_class_key t
awaits_last [] t = refl
awaits_last (x ∷ []) t = refl
awaits_last (x ∷ y ∷ ts) t = awaits_last (y ∷ ts) t

or_assoc : (a b c : Bool) → ((a || b) || c) ≡ (a || (b || c))
or_assoc true b c = refl
or_assoc false b c = refl

pub any_last : {X : Type 0} (p : X → Bool) (xs : List X) (x : X) → list_any p (xs ++ x ∷ []) ≡ (list_any p xs || p x)
any_last p [] x = or_false (p x)
  where
    or_false : (a : Bool) → (a || false) ≡ a
    or_false true = refl
    or_false false = refl
any_last p (y ∷ xs) x = ap (λ b. p y || b) (any_last p xs x) ∙ sym (or_assoc (p y) (list_any p xs) (p x))

cond_or : (a b : Bool) → cond a true b ≡ (b || a)
cond_or true true = refl
cond_or true false = refl
cond_or false true = refl
cond_or false false = refl

pub names_last : (word : List ℕ) (ts : List Token) (t : Token) (b : Bool) → b ≡ list_any (is_class_name word) ts → cond (is_class_name word t) true b ≡ list_any (is_class_name word) (ts ++ t ∷ [])
names_last word ts t b e = cond_or (is_class_name word t) b ∙ (ap (λ a. a || is_class_name word t) e ∙ sym (any_last (is_class_name word) ts t))
