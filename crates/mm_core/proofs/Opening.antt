-- What calls of open-methods give fits, where what functions give does and no open-method has a fault.
use Rattle.std.proofs.Common.{◌≡◌, ℕ, zero, suc, ◌<◌, ◌≤◌, List, [], ◌∷◌, refl, sym, subst, ap, ◌∙◌, inl, inr, arith}
use Rattle.std.specs.Prelude.{◌⊎◌, Bool, true, false, not, IsTrue, cond, if◌then◌else◌, Some}
use Rattle.std.specs.List.{list_any, list_all}
use Rattle.mm_classes.specs.Lists.{Has, first, later}
use Rattle.mm_classes.specs.Classes.{Class, IsClassList}
use Rattle.mm_core.specs.Families.{Declared, over, least_overridden}
use Rattle.mm_core.specs.Ordering.{first_by, names_before}
use Rattle.mm_core.specs.Dispatch.{Reason, is_covariant, fitting, tied, decided, winner_among}
use Rattle.mm_core.proofs.Heap.{either_way}
use Rattle.mm_core.proofs.Sets.{and_is, filter-from, filter-has, any-from}
use Rattle.mm_core.proofs.Overriding.{orders}

-- ---- lists

module _ {X : Type 0} where
  pub first_by_has : (before : X → X → Bool) (x : X) (ys : List X) → Has (x ∷ ys) (first_by before x ys)
  first_by_has before x [] = first refl
  first_by_has before x (y ∷ ys) = chosen (before y x) (first_by_has before (if before y x then y else x) ys)
    where
      chosen : (b : Bool) → Has ((if b then y else x) ∷ ys) (first_by before (if b then y else x) ys) → Has (x ∷ y ∷ ys) (first_by before (if b then y else x) ys)
      chosen true h = later h
      chosen false (first e) = first e
      chosen false (later h) = later (later h)

  all_has : (p : X → Bool) (xs : List X) (x : X) → list_all p xs ≡ true → Has xs x → p x ≡ true
  all_has p [] x e h = elim h [ ]
  all_has p (y ∷ ys) x e (first i) = subst (λ z. p z ≡ true) i (and_is (p y) (list_all p ys) e).0
  all_has p (y ∷ ys) x e (later h) = all_has p ys x (and_is (p y) (list_all p ys) e).1 h

  -- how many pass a test
  abbrev tally : (X → Bool) → List X → ℕ
  tally p [] = 0
  tally p (y ∷ ys) = cond (p y) (suc (tally p ys)) (tally p ys)

  -- more pass the weaker test
  counts : (p q : X → Bool) (xs : List X) → ((x : X) → p x ≡ true → q x ≡ true) → tally p xs ≤ tally q xs
  counts p q [] h = omega arith
  counts p q (y ∷ ys) h = each (p y) (q y) (h y) (counts p q ys h)
    where
      each : (a b : Bool) → (a ≡ true → b ≡ true) → tally p ys ≤ tally q ys → cond a (suc (tally p ys)) (tally p ys) ≤ cond b (suc (tally q ys)) (tally q ys)
      each true true f l = omega arith
      each true false f l = (let z : false ≡ true = f refl in cc)
      each false true f l = omega arith
      each false false f l = l

  fewer_count : (p q : X → Bool) (xs : List X) (x : X) → ((y : X) → p y ≡ true → q y ≡ true) → Has xs x → p x ≡ false → q x ≡ true → tally p xs < tally q xs
  fewer_count p q [] x h i e f = elim i [ ]
  fewer_count p q (y ∷ ys) x h (first k) e f = at_first (p y) (q y) (subst (λ z. p z ≡ false) (sym k) e) (subst (λ z. q z ≡ true) (sym k) f) (counts p q ys h)
    where
      at_first : (a b : Bool) → a ≡ false → b ≡ true → tally p ys ≤ tally q ys → cond a (suc (tally p ys)) (tally p ys) < cond b (suc (tally q ys)) (tally q ys)
      at_first false true e f l = omega arith
      at_first true b e f l = cc
      at_first false false e f l = cc
  fewer_count p q (y ∷ ys) x h (later i) e f = each (p y) (q y) (h y) (fewer_count p q ys x h i e f)
    where
      each : (a b : Bool) → (a ≡ true → b ≡ true) → tally p ys < tally q ys → cond a (suc (tally p ys)) (tally p ys) < cond b (suc (tally q ys)) (tally q ys)
      each true true f l = omega arith
      each true false f l = (let z : false ≡ true = f refl in cc)
      each false true f l = omega arith
      each false false f l = l

-- ---- the winner

module _ (g : List Class) (ok : IsClassList g) where
  tied_has : (rs : List Declared) (w : Declared × Reason) → tied g rs ≡ Some w → Has rs w.0
  tied_has [] w e = cc
  tied_has (r ∷ []) w e = first (let k : (r, Reason.Covariant) ≡ w = cc in ap (λ (z : Declared × Reason). z.0) k)
  tied_has (r ∷ q ∷ rs) w e = (let k : (first_by (names_before g) r (q ∷ rs), Reason.Order) ≡ w = cc in subst (Has (r ∷ q ∷ rs)) (ap (λ (z : Declared × Reason). z.0) k) (first_by_has (names_before g) r (q ∷ rs)))

  -- the result of the winner fits that of a declaration
  abbrev pub ResultOver : Declared → Declared → Type 0
  ResultOver w o = (w ≡ o) ⊎ ((IsTrue (over g w o)) ⊎ IsTrue (is_covariant g w.function.result o.function.result))

  -- where one alone is left, it is over each other one
  module _ (viable : List Declared) (w : Declared) (left : least_overridden g viable ≡ w ∷ []) where
    itself : (q : Declared) → over g q q ≡ false
    itself q = elim (either_way (over g q q)) [ inl e ↦ absurd ((orders g ok).itself q.function e) | inr e ↦ e ]

    only_one : (o : Declared) → Has (w ∷ []) o → w ≡ o
    only_one o (first e) = e
    only_one o (later k) = elim k [ ]

    not_over : (o : Declared) → Has viable o → list_any (λ q. over g q o) viable ≡ false → w ≡ o
    not_over o h e = only_one o (subst (λ rs. Has rs o) left (filter-has (λ r. not (list_any (λ q. over g q r) viable)) viable o h (rw e refl)))

    fewer_over : (o q : Declared) → Has viable q → over g q o ≡ true → tally (λ x. over g x q) viable < tally (λ x. over g x o) viable
    fewer_over o q i e = fewer_count (λ x. over g x q) (λ x. over g x o) viable q (λ y k. (orders g ok).through y.function q.function o.function k e) i (itself q) e

    next_over : (o q : Declared) → over g q o ≡ true → (w ≡ q) ⊎ IsTrue (over g w q) → (w ≡ o) ⊎ IsTrue (over g w o)
    next_over o q e (inl k) = inr (subst (λ z. IsTrue (over g z o)) (sym k) e)
    next_over o q e (inr k) = inr ((orders g ok).through w.function q.function o.function k e)

    over_all : (n : ℕ) (o : Declared) → tally (λ q. over g q o) viable ≤ n → Has viable o → (w ≡ o) ⊎ IsTrue (over g w o)
    over_all zero o l h = elim (either_way (list_any (λ q. over g q o) viable)) [
      | inr e ↦ inl (not_over o h e)
      | inl e ↦ (let q = any-from (λ q. over g q o) viable e in let z = fewer_over o q.0 q.1 q.2 in absurd (let b : ⊥ = omega arith in b))
    ]
    over_all (suc n) o l h = elim (either_way (list_any (λ q. over g q o) viable)) [
      | inr e ↦ inl (not_over o h e)
      | inl e ↦ (let q = any-from (λ q. over g q o) viable e in let z = fewer_over o q.0 q.1 q.2 in next_over o q.0 q.2 (over_all n q.0 (omega arith) q.1))
    ]

  -- the winner is one of the viable, and over each of them, or its result fits that of each
  pub winner_over : (viable : List Declared) (w : Declared × Reason) → winner_among g viable ≡ Some w → Has viable w.0 × ((o : Declared) → Has viable o → ResultOver w.0 o)
  winner_over viable w e = decided_over (least_overridden g viable) refl e
    where
      decided_over : (left : List Declared) → least_overridden g viable ≡ left → decided g viable left ≡ Some w → Has viable w.0 × ((o : Declared) → Has viable o → ResultOver w.0 o)
      decided_over [] l e = cc
      decided_over (r ∷ []) l e =
          let k : (r, Reason.Best) ≡ w = cc in
          let i : r ≡ w.0 = ap (λ (z : Declared × Reason). z.0) k in
          let l' : least_overridden g viable ≡ w.0 ∷ [] = l ∙ ap (λ z. z ∷ []) i in
          ((filter-from (λ r. not (list_any (λ q. over g q r) viable)) viable w.0 (subst (λ rs. Has rs w.0) (sym l') (first refl))).0, λ o h. as_result o (over_all viable w.0 l' (tally (λ q. over g q o) viable) o (omega arith) h))
        where
          as_result : (o : Declared) → (w.0 ≡ o) ⊎ IsTrue (over g w.0 o) → ResultOver w.0 o
          as_result o (inl e) = inl e
          as_result o (inr e) = inr (inl e)
      decided_over (r ∷ q ∷ rs) l e =
          let h = tied_has (fitting g viable (r ∷ q ∷ rs)) w e in
          let f = filter-from (λ (z : Declared). list_all (λ (v : Declared). is_covariant g z.function.result v.function.result) viable) (r ∷ q ∷ rs) w.0 h in
          let m = filter-from (λ r. not (list_any (λ q. over g q r) viable)) viable w.0 (subst (λ ls. Has ls w.0) (sym l) f.0) in
          (m.0, λ o i. inr (inr (all_has (λ (v : Declared). is_covariant g w.0.function.result v.function.result) viable o f.1 i)))
