-- The search for a number that a list has.
use Rattle.std.proofs.Common.{◌≡◌, ℕ, zero, suc, ◌+◌, ◌<◌, List, [], ◌∷◌, length, get_or, drop, refl, sym, subst, ap, ◌∙◌, inl, inr, arith}
use Rattle.std.specs.Prelude.{Bool, true, false, not, nat_eq}
use Rattle.std.proofs.lemmas.Bool.Decides.{eqb_tells}
use Rattle.std.proofs.lemmas.List.{drop_more}
use Rattle.mm_classes.specs.Lists.{Has, first, later}

-- what a test of two numbers says
pub different_number : (a b : ℕ) (r : Bool) → r ≡ not (nat_eq a b) → r ≡ true → a ≡ b → ⊥
different_number a b r e t k = elim (eqb_tells a b) [ inl y ↦ (let z : false ≡ true = sym (ap not y.0) ∙ (sym e ∙ t) in cc) | inr n ↦ n.1 k ]

pub alike_number : (a b : ℕ) (r : Bool) → r ≡ not (nat_eq a b) → r ≡ false → a ≡ b
alike_number a b r e f = elim (eqb_tells a b) [ inl y ↦ y.1 | inr n ↦ (let z : true ≡ false = sym (ap not n.0) ∙ (sym e ∙ f) in cc) ]

pub search_here : (vs : List ℕ) (j v : ℕ) → Has (drop j vs) v → j < length vs
search_here [] zero v h = elim h [ ]
search_here [] (suc j) v h = elim h [ ]
search_here (w ∷ vs) zero v h = omega arith
search_here (w ∷ vs) (suc j) v h = let i = search_here vs j v h in omega arith

pub search_more : (vs : List ℕ) (j v x : ℕ) → x ≡ get_or vs j x → (x ≡ v → ⊥) → Has (drop j vs) v → Has (drop (j + 1) vs) v
search_more vs j v x ex ne h =
    let l = search_here vs j v h in
    let d : drop j vs ≡ x ∷ drop (j + 1) vs = drop_more vs j x l ∙ ap (λ z. z ∷ drop (j + 1) vs) (sym ex) in
    elim (subst (λ z. Has z v) d h) [ first e ↦ absurd (ne e) | later k ↦ k ]

same_read : (vs : List ℕ) (j d e : ℕ) → j < length vs → get_or vs j d ≡ get_or vs j e
same_read [] j d e l = absurd (omega arith)
same_read (v ∷ vs) zero d e l = refl
same_read (v ∷ vs) (suc j) d e l = same_read vs j d e (omega arith)

pub start_found : (vs ss : List ℕ) (j v x : ℕ) → j < length vs → x ≡ get_or vs j x → x ≡ v
    → (k : ℕ) × (k < length vs) × (get_or vs k 0 ≡ v) × (get_or ss j 0 ≡ get_or ss k 0)
start_found vs ss j v x l ex e = (j, l, same_read vs j 0 x l ∙ (sym ex ∙ e), refl)
