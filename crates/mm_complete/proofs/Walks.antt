-- How the functions that trees call are put into a list.
use Rattle.std.proofs.Common.{◌≡◌, ℕ, suc, ◌+◌, ◌<◌, ◌≤◌, List, [], ◌∷◌, ◌++◌, length, get_or, drop, map, refl, sym, ap, ◌∙◌, append_assoc, append-nil, subst, arith}
use Rattle.std.proofs.lemmas.List.{drop_all, drop_more}

pub append_cons : (xs : List ℕ) (x : ℕ) (ys : List ℕ) → (xs ++ x ∷ []) ++ ys ≡ xs ++ x ∷ ys
append_cons xs x ys = append_assoc xs (x ∷ []) ys

pub assoc : (xs ys zs : List ℕ) → (xs ++ ys) ++ zs ≡ xs ++ (ys ++ zs)
assoc = append_assoc

pub nil : (xs : List ℕ) → xs ++ [] ≡ xs
nil = append-nil

pub ruleset list_rules = (append_cons, assoc, nil)

-- What the first i of trees call is in the list; what the others call comes behind it.
module _ {A : Type 0} (all : List A → List ℕ) (one : A → List ℕ) (all-cons : (x : A) (xs : List A) → all (x ∷ xs) ≡ one x ++ all xs) (all-nil : all [] ≡ []) where
  abbrev pub SoFar : List ℕ → List A → ℕ → List ℕ → Type 0
  SoFar old xs i list = list ++ all (drop i xs) ≡ old ++ all xs

  pub end : (old : List ℕ) (xs : List A) (i : ℕ) (list : List ℕ) → length xs ≤ i → SoFar old xs i list → list ≡ old ++ all xs
  end old xs i list past so = sym (append-nil list) ∙ ap (λ c. list ++ c) (sym all-nil) ∙ ap (λ l. list ++ all l) (sym (drop_all i xs past)) ∙ so

  pub next : (old : List ℕ) (xs : List A) (i : ℕ) (x : A) (list : List ℕ) → x ≡ get_or xs i x → i < length xs → SoFar old xs i list → (list' : List ℕ) → list' ≡ list ++ one x → SoFar old xs (i + 1) list'
  next old xs i x list is low so list' more =
      let split : drop i xs ≡ x ∷ drop (i + 1) xs = drop_more xs i x low ∙ ap (λ y. y ∷ drop (i + 1) xs) (sym is) in
      ap (λ l. l ++ all (drop (i + 1) xs)) more ∙ append_assoc list (one x) (all (drop (i + 1) xs)) ∙ ap (λ c. list ++ c) (sym (all-cons x (drop (i + 1) xs))) ∙ ap (λ l. list ++ all l) (sym split) ∙ so
