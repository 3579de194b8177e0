-- Which classes have virtual bases, and tags.
use Rattle.std.proofs.Common.{◌≡◌, ◌≢◌, ℕ, ◌<◌, ◌⊎◌, inl, inr, true, false, List, [], ◌∷◌, length, get_or, sym, ◌∙◌, ap, refl, subst, arith, ◌+◌, ◌++◌, Bool, not, eqb, ◌↔◌, suc}
use Rattle.std.specs.Bool.{Decides}
use Rattle.std.proofs.lemmas.Bool.Decides.{eqb_tells}
use Rattle.std.proofs.lemmas.Bool.{cases_lt}
use Rattle.std.proofs.lemmas.List.{get_or_append_left, get_or_push}
use Rattle.mm_classes.specs.Lists.{Has, first}
use Rattle.mm_classes.specs.declared.class.Base.{Base}
use Rattle.mm_classes.specs.Classes.{Class, IsClassList, class_at, bases_of, members_of, Derives, direct, through}
use Rattle.mm_classes.specs.Subobjects.{IsVirtual, listed, below}
use Rattle.mm_classes.proofs.Answering.{Has-get_or, complete_below}
use Rattle.mm_layout.specs.Regions.{HasTag}

-- nothing is in an empty list
none : {X : Type 0} (xs : List X) (x : X) → xs ≡ [] → Has xs x → ⊥
none [] x e h = elim h [ ]
none (y ∷ ys) x e h = cc

pub no_derived : (g : List Class) (c b : ℕ) → bases_of g c ≡ [] → Derives g c b → ⊥
no_derived g c b e (direct x h _) = none (bases_of g c) x e h
no_derived g c b e (through x h _) = none (bases_of g c) x e h

no_virtual_base : (g : List Class) (c v : ℕ) → bases_of g c ≡ [] → IsVirtual g c v → ⊥
no_virtual_base g c v e (listed x h _ _) = none (bases_of g c) x e h
no_virtual_base g c v e (below x h _) = none (bases_of g c) x e h

-- a class of which the name alone is known has no tag
pub bare_has_none : (g : List Class) → IsClassList g → (c : ℕ) → (class_at g c).complete ≡ false → HasTag g c → ⊥
bare_has_none g ok c bare (inr (v, virtual)) = no_virtual_base g c v (ok.bare c bare).0 virtual
bare_has_none g ok c bare (inl (b, inl e, has)) = none (members_of g c) has.0 (ok.bare c bare).1 (subst (λ x. Has (members_of g x) has.0) (sym e) has.1)
bare_has_none g ok c bare (inl (b, inr d, has)) = no_derived g c b (ok.bare c bare).0 d

-- a direct base is declared
pub base_low : (g : List Class) → IsClassList g → (c n : ℕ) (b : Base) (bs : List Base) → bs ≡ bases_of g c → n < length bs → b ≡ get_or bs n b → b.class < length g
base_low g ok c n b bs e h r =
    let has : Has bs b = subst (Has bs) (sym r) (Has-get_or bs n b h) in
    complete_below g b.class (ok.known c b (subst (λ xs. Has xs b) e has))

-- what holds of each element, with one more at the end
pub pushed : {X : Type 0} (P : ℕ → X → Type 0) (xs new : List X) (n : ℕ) (x d : X) → length xs ≡ n → ((k : ℕ) → k < n → P k (get_or xs k d)) → P n x
    → new ≡ xs ++ x ∷ [] → (k : ℕ) → k < n + 1 → P k (get_or new k d)
pushed P xs new n x d long each here e k h = subst (λ ys. P k (get_or ys k d)) (sym e) (elim (cases_lt k n) [
  | inl before ↦ let inside : k < length xs = omega (arith, long) in subst (P k) (sym (get_or_append_left xs (x ∷ []) d k inside)) (each k before)
  | inr past ↦ let is : n ≡ k = omega arith in subst (P k) (sym (get_or_push xs x d k (long ∙ is))) (subst (λ i. P i x) is here)
])

-- a list that has what has a property is not empty exactly where something has it
pub some_of : (P : ℕ → Type 0) (vs : List ℕ) (b : Bool) → b ≡ eqb (length vs) 0 → ((v : ℕ) → P v ↔ Has vs v) → Decides (not b) ((v : ℕ) × P v)
some_of P [] b e h =
    let is_true : b ≡ true = e in
    (λ f. let g : false ≡ true = sym (ap not is_true) ∙ f in cc, λ (v, p). absurd (none [] v refl ((h v).0 p)))
some_of P (v ∷ vs) b e h =
    let is_false : b ≡ false = e ∙ not_zero (eqb_tells (length (v ∷ vs)) 0) in
    (λ _. (v, (h v).1 (first refl)), λ _. ap not is_false)
  where
    long : (n : ℕ) → suc n ≡ 0 → ⊥
    long n z = omega arith

    not_zero : ((eqb (length (v ∷ vs)) 0 ≡ true) × (length (v ∷ vs) ≡ 0)) ⊎ ((eqb (length (v ∷ vs)) 0 ≡ false) × (length (v ∷ vs) ≢ 0)) → eqb (length (v ∷ vs)) 0 ≡ false
    not_zero (inl (_, z)) = absurd (long (length vs) z)
    not_zero (inr (n, _)) = n
