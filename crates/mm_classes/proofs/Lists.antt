-- Laws of the words on lists.
use Rattle.std.proofs.Common.{◌≡◌, ℕ, List, [], ◌∷◌, ◌++◌, map, refl, sym, subst, ap, ◌∙◌, inl, inr, arith}
use Rattle.std.specs.Prelude.{true, false, ◌⊎◌, cond}
use Rattle.std.specs.List.{flat_map}
use Rattle.std.proofs.lemmas.Bool.Decides.{nat_tests, eqb_tells}
use Rattle.mm_classes.specs.Lists.{Has, first, later, Distinct, has, with_new, with_all_new, firsts}

pub Has-left : {X : Type 0} (xs ys : List X) {x : X} → Has xs x → Has (xs ++ ys) x
Has-left [] ys h = elim h [ ]
Has-left (y ∷ xs) ys (first e) = first e
Has-left (y ∷ xs) ys (later h) = later (Has-left xs ys h)

pub Has-right : {X : Type 0} (xs ys : List X) {x : X} → Has ys x → Has (xs ++ ys) x
Has-right [] ys h = h
Has-right (y ∷ xs) ys h = later (Has-right xs ys h)

pub Has-append : {X : Type 0} (xs ys : List X) {x : X} → Has (xs ++ ys) x → Has xs x ⊎ Has ys x
Has-append [] ys h = inr h
Has-append (y ∷ xs) ys (first e) = inl (first e)
Has-append (y ∷ xs) ys (later h) = elim (Has-append xs ys h) [ inl a ↦ inl (later a) | inr b ↦ inr b ]

pub Has-map : {X Y : Type 0} (f : X → Y) (xs : List X) {x : X} → Has xs x → Has (map f xs) (f x)
Has-map f [] h = elim h [ ]
Has-map f (y ∷ xs) (first e) = first (ap f e)
Has-map f (y ∷ xs) (later h) = later (Has-map f xs h)

pub Has-map_from : {X Y : Type 0} (f : X → Y) (xs : List X) {y : Y} → Has (map f xs) y → (x : X) × Has xs x × (f x ≡ y)
Has-map_from f [] h = elim h [ ]
Has-map_from f (x ∷ xs) (first e) = (x, first refl, e)
Has-map_from f (x ∷ xs) (later h) = let r = Has-map_from f xs h in (r.0, later r.1, r.2)

pub Has-flat_map : {X Y : Type 0} (f : X → List Y) (xs : List X) (x : X) {y : Y} → Has xs x → Has (f x) y → Has (flat_map f xs) y
Has-flat_map f [] x h k = elim h [ ]
Has-flat_map f (z ∷ xs) x {y = y} (first e) k = Has-left (f z) (flat_map f xs) (subst (λ w. Has (f w) y) (sym e) k)
Has-flat_map f (z ∷ xs) x (later h) k = Has-right (f z) (flat_map f xs) (Has-flat_map f xs x h k)

pub Has-flat_map_from : {X Y : Type 0} (f : X → List Y) (xs : List X) {y : Y} → Has (flat_map f xs) y → (x : X) × Has xs x × Has (f x) y
Has-flat_map_from f [] h = elim h [ ]
Has-flat_map_from f (x ∷ xs) h = elim (Has-append (f x) (flat_map f xs) h) [
  | inl a ↦ (x, first refl, a)
  | inr b ↦ let r = Has-flat_map_from f xs b in (r.0, later r.1, r.2)
]

pub flat_map-same : {X Y : Type 0} (f g : X → List Y) (xs : List X) → ((x : X) → Has xs x → f x ≡ g x) → flat_map f xs ≡ flat_map g xs
flat_map-same f g [] h = refl
flat_map-same f g (x ∷ xs) h = rw (h x (first refl)) (ap (λ zs. g x ++ zs) (flat_map-same f g xs (λ y k. h y (later k))))

pub Distinct-append : {X : Type 0} (xs ys : List X) → Distinct xs → Distinct ys → ((x : X) → Has xs x → Has ys x → ⊥) → Distinct (xs ++ ys)
Distinct-append [] ys a b apart = b
Distinct-append (x ∷ xs) ys a b apart =
    ((λ h. elim (Has-append xs ys h) [ inl k ↦ a.0 k | inr k ↦ apart x (first refl) k ]), Distinct-append xs ys a.1 b (λ y k. apart y (later k)))

pub Distinct-map : {X Y : Type 0} (f : X → Y) (xs : List X) → ((x y : X) → f x ≡ f y → x ≡ y) → Distinct xs → Distinct (map f xs)
Distinct-map f [] one d = tt
Distinct-map f (x ∷ xs) one d =
    ((λ h. let r = Has-map_from f xs h in d.0 (subst (λ w. Has xs w) (one r.0 x r.2) r.1)), Distinct-map f xs one d.1)

pub Distinct-flat_map : {X Y : Type 0} (f : X → List Y) (xs : List X) → Distinct xs → ((x : X) → Has xs x → Distinct (f x))
    → ((x z : X) (y : Y) → Has (f x) y → Has (f z) y → x ≡ z) → Distinct (flat_map f xs)
Distinct-flat_map f [] d each apart = tt
Distinct-flat_map f (x ∷ xs) d each apart =
    Distinct-append (f x) (flat_map f xs) (each x (first refl)) (Distinct-flat_map f xs d.1 (λ z k. each z (later k)) apart)
    (λ y a b. let r = Has-flat_map_from f xs b in d.0 (subst (λ w. Has xs w) (apart r.0 x y r.2 a) r.1))

-- tests
pub has-true : (xs : List ℕ) (x : ℕ) → has xs x ≡ true → Has xs x
has-true [] x h = cc
has-true (y ∷ ys) x h = elim (eqb_tells y x) [
  | inl e ↦ first e.1
  | inr e ↦ later (has-true ys x (rw e.0 at h))
]

pub has-Has : (xs : List ℕ) (x : ℕ) → Has xs x → has xs x ≡ true
has-Has [] x h = elim h [ ]
has-Has (y ∷ ys) x (first e) = grind (arith, nat_tests)
has-Has (y ∷ ys) x (later h) = let ih = has-Has ys x h in grind (arith, nat_tests)

pub no_elements : {X : Type 0} (xs : List X) → ((x : X) → Has xs x → ⊥) → xs ≡ []
no_elements [] h = refl
no_elements (x ∷ xs) h = absurd (h x (first refl))

-- with_new
pub with_new-from : (seen : List ℕ) (y : ℕ) (x : ℕ) → Has (with_new seen y) x → Has seen x ⊎ (y ≡ x)
with_new-from seen y x h = elim (has seen y) as (λ b. Has (cond b seen (seen ++ y ∷ [])) x → Has seen x ⊎ (y ≡ x)) [
  | true ↦ λ k. inl k
  | false ↦ λ k. elim (Has-append seen (y ∷ []) k) [ inl a ↦ inl a | inr b ↦ elim b [ first e ↦ inr e | later z ↦ elim z [ ] ] ]
] h

pub with_new-kept : (seen : List ℕ) (y : ℕ) (x : ℕ) → Has seen x → Has (with_new seen y) x
with_new-kept seen y x h = elim (has seen y) as (λ b. Has (cond b seen (seen ++ y ∷ [])) x) [
  | true ↦ h
  | false ↦ Has-left seen (y ∷ []) h
]

pub with_new-has : (seen : List ℕ) (y : ℕ) → Has (with_new seen y) y
with_new-has seen y = elim (has seen y) as (λ b. has seen y ≡ b → Has (cond b seen (seen ++ y ∷ [])) y) [
  | true ↦ λ e. has-true seen y e
  | false ↦ λ e. Has-right seen (y ∷ []) (first refl)
] refl

pub with_new-Distinct : (seen : List ℕ) (y : ℕ) → Distinct seen → Distinct (with_new seen y)
with_new-Distinct seen y d = elim (has seen y) as (λ b. has seen y ≡ b → Distinct (cond b seen (seen ++ y ∷ []))) [
  | true ↦ λ e. d
  | false ↦ λ e. Distinct-append seen (y ∷ []) d ((λ h. elim h [ ]), tt)
      (λ x a b. elim b [ first f ↦ let k = has-Has seen x a in let z : true ≡ false = cc in cc | later z ↦ elim z [ ] ])
] refl

pub with_all_new-kept : (seen xs : List ℕ) (x : ℕ) → Has seen x → Has (with_all_new seen xs) x
with_all_new-kept seen [] x h = h
with_all_new-kept seen (y ∷ ys) x h = with_all_new-kept (with_new seen y) ys x (with_new-kept seen y x h)

pub with_all_new-has : (seen xs : List ℕ) (x : ℕ) → Has xs x → Has (with_all_new seen xs) x
with_all_new-has seen [] x h = elim h [ ]
with_all_new-has seen (y ∷ ys) x (first e) = with_all_new-kept (with_new seen y) ys x (subst (λ w. Has (with_new seen y) w) e (with_new-has seen y))
with_all_new-has seen (y ∷ ys) x (later h) = with_all_new-has (with_new seen y) ys x h

pub with_all_new-from : (seen xs : List ℕ) (x : ℕ) → Has (with_all_new seen xs) x → Has seen x ⊎ Has xs x
with_all_new-from seen [] x h = inl h
with_all_new-from seen (y ∷ ys) x h = elim (with_all_new-from (with_new seen y) ys x h) [
  | inl a ↦ elim (with_new-from seen y x a) [ inl b ↦ inl b | inr e ↦ inr (first e) ]
  | inr b ↦ inr (later b)
]

pub with_all_new-Distinct : (seen xs : List ℕ) → Distinct seen → Distinct (with_all_new seen xs)
with_all_new-Distinct seen [] d = d
with_all_new-Distinct seen (y ∷ ys) d = with_all_new-Distinct (with_new seen y) ys (with_new-Distinct seen y d)

pub with_all_new-append : (seen xs ys : List ℕ) → with_all_new seen (xs ++ ys) ≡ with_all_new (with_all_new seen xs) ys
with_all_new-append seen [] ys = refl
with_all_new-append seen (x ∷ xs) ys = with_all_new-append (with_new seen x) xs ys

-- numbers that are all there already change nothing
pub with_all_new-same : (seen xs : List ℕ) → ((x : ℕ) → Has xs x → Has seen x) → with_all_new seen xs ≡ seen
with_all_new-same seen [] h = refl
with_all_new-same seen (x ∷ xs) h = rw (has-Has seen x (h x (first refl))) (with_all_new-same seen xs (λ y k. h y (later k)))

with_new-twice : (seen more : List ℕ) (y : ℕ) → with_all_new seen (with_new more y) ≡ with_new (with_all_new seen more) y
with_new-twice seen more y = elim (has more y) as (λ b. has more y ≡ b → with_all_new seen (cond b more (more ++ y ∷ [])) ≡ with_new (with_all_new seen more) y) [
  | true ↦ λ e. rw (has-Has (with_all_new seen more) y (with_all_new-has seen more y (has-true more y e))) refl
  | false ↦ λ e. with_all_new-append seen more (y ∷ [])
] refl

-- what is each once already may be put in place of the whole
pub with_all_new-once : (seen more xs : List ℕ) → with_all_new seen (with_all_new more xs) ≡ with_all_new (with_all_new seen more) xs
with_all_new-once seen more [] = refl
with_all_new-once seen more (x ∷ xs) = with_all_new-once seen (with_new more x) xs ∙ ap (λ s. with_all_new s xs) (with_new-twice seen more x)

pub with_firsts : (seen xs : List ℕ) → with_all_new seen (firsts xs) ≡ with_all_new seen xs
with_firsts seen xs = with_all_new-once seen [] xs
