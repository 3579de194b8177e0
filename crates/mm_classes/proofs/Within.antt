-- Containment by a test that makes nothing: a longer path, or a virtual base.
use Rattle.std.proofs.Common.{◌≡◌, ℕ, ◌+◌, ◌<◌, List, [], ◌∷◌, ◌++◌, length, get_or, refl, sym, subst, ap, ◌∙◌, inl, inr, arith}
use Rattle.std.specs.Prelude.{Bool, true, false, ◌⊎◌}
use Rattle.std.proofs.lemmas.Bool.Decides.{eqb_tells}
use Rattle.std.specs.Bool.{Decides}
use Rattle.mm_classes.specs.declared.answer.Up.{Up}
use Rattle.mm_classes.specs.declared.answer.Up.TheVariants as up
use Rattle.mm_classes.specs.Lists.{Has}
use Rattle.mm_classes.specs.Classes.{Class, IsClassList}
use Rattle.mm_classes.specs.Subobjects.{Path, IsChain, IsVirtual, IsSubobject, last_of, end_of, compose, walk, virtual_bases, IsWithin}
use Rattle.mm_classes.specs.Questions.{Picks, picked}
use Rattle.mm_classes.proofs.Lists.{with_all_new-from, with_all_new-has}
use Rattle.mm_classes.proofs.Subs.{virtual_falls, walk_is, is_walk, deep}
use Rattle.mm_classes.proofs.Compose.{compose-on, compose-anew}

-- what the test asks
abbrev pub Goes : List Class → Path → Path → Type 0
Goes g t s = ((u : Path) × (s ≡ t ++ u)) ⊎ Has (virtual_bases g (end_of t)) (get_or s 0 0)

chain_rest : (g : List Class) (c : ℕ) (t u : Path) → IsChain g c (t ++ u) → IsChain g (last_of c t) u
chain_rest g c [] u k = k
chain_rest g c (x ∷ t) u k = chain_rest g x t u k.1

module _ (g : List Class) (ok : IsClassList g) where
  pub virtual_bases_are : (c v : ℕ) → Has (virtual_bases g c) v → IsVirtual g c v
  virtual_bases_are c v h = elim (with_all_new-from [] (walk g (length g) c) v h) [ inl z ↦ elim z [ ] | inr k ↦ walk_is g ok (length g) c v k ]

  pub are_virtual_bases : (c v : ℕ) → IsVirtual g c v → Has (virtual_bases g c) v
  are_virtual_bases c v k = with_all_new-has [] (walk g (length g) c) v (is_walk g ok (length g) c v (deep g ok c) k)

  pub within_goes : (t s : Path) → IsWithin g s t → Goes g t s
  within_goes t s w = elim w.0 as (λ q. IsSubobject g (end_of t) q → compose t q ≡ s → Goes g t s) [
    | [] ↦ λ k e. absurd k
    | c ∷ u ↦ λ k e. elim (eqb_tells c (end_of t)) [
      | inl y ↦ inl (u, sym e ∙ compose-on t c u y.1)
      | inr n ↦ elim k.0 [
        | inl z ↦ absurd (n.1 z)
        | inr v ↦ inr (subst (λ z. Has (virtual_bases g (end_of t)) (get_or z 0 0)) (sym (compose-anew t c u n.1) ∙ e) (are_virtual_bases (end_of t) c v))
      ]
    ]
  ] w.1 w.2

  pub goes_within : (d : ℕ) (t s : Path) → IsSubobject g d t → IsSubobject g d s → Goes g t s → IsWithin g s t
  goes_within d [] s st ss w = absurd st
  goes_within d (h ∷ r) [] st ss w = absurd ss
  goes_within d (h ∷ r) (c ∷ w) st ss (inl y) =
      let k : IsChain g h (r ++ y.0) = (subst (IsSubobject g d) y.1 ss).1 in
      (last_of h r ∷ y.0, (inl refl, chain_rest g h r y.0 k), compose-on (h ∷ r) (last_of h r) y.0 refl ∙ sym y.1)
  goes_within d (h ∷ r) (c ∷ w) st ss (inr v) =
      let i = virtual_bases_are (last_of h r) c v in
      let f = virtual_falls g ok (last_of h r) c i in
      (c ∷ w, (inr i, ss.1), compose-anew (h ∷ r) c w (λ e. let k = ap ok.rank e in omega arith))

  pub within_decides : (d : ℕ) (t s : Path) (b : Bool) → IsSubobject g d t → IsSubobject g d s → Decides b (Goes g t s) → Decides b (IsWithin g s t)
  within_decides d t s b st ss h = ((λ e. goes_within d t s st ss (h.0 e)), λ w. h.1 (within_goes t s w))

below_or : (m n : ℕ) → m < n + 1 → (m < n) ⊎ (m ≡ n)
below_or m n l = grind arith

-- one more number
pub picks_step : (P : ℕ → Type 0) (u : Up) (n : ℕ) (b : Bool) → Decides b (P n) → Picks u P n → Picks (picked u n b) P (n + 1)
picks_step P up.None n true h k = (omega arith, h.0 refl, λ m l p. elim (below_or m n l) [ inl a ↦ absurd (k m a p) | inr e ↦ e ])
picks_step P up.None n false h k = λ m l p. elim (below_or m n l) [ inl a ↦ k m a p | inr e ↦ (let z : false ≡ true = h.1 (subst P e p) in cc) ]
picks_step P (up.One m) n true h k = (m, n, k.0, omega arith, k.1, h.0 refl)
picks_step P (up.One m) n false h k = (omega arith, k.1, λ x l p. elim (below_or x n l) [ inl a ↦ k.2 x a p | inr e ↦ (let z : false ≡ true = h.1 (subst P e p) in cc) ])
picks_step P up.Several n true h k = (k.0, k.1, k.2, (let z = k.3 in omega arith), k.4, k.5)
picks_step P up.Several n false h k = (k.0, k.1, k.2, (let z = k.3 in omega arith), k.4, k.5)

pub contains_is : (g : List Class) → IsClassList g → (d : ℕ) (whole inner t s : Path) (shared : List ℕ) (r : Bool) → IsSubobject g d whole → IsSubobject g d inner → shared ≡ virtual_bases g (end_of whole)
    → Decides r (((u : List ℕ) × (inner ≡ whole ++ u)) ⊎ Has shared (get_or inner 0 0)) → whole ≡ t → inner ≡ s → Decides r (IsWithin g s t)
contains_is g ok d whole inner t s shared r sw sp v h a b =
    subst (λ z. Decides r (IsWithin g s z)) a (subst (λ z. Decides r (IsWithin g z whole)) b
    (within_decides g ok d whole inner r sw sp (subst (λ z. Decides r (((u : List ℕ) × (inner ≡ whole ++ u)) ⊎ Has z (get_or inner 0 0))) v h)))
