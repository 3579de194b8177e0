-- The computed sets of subobjects are what the relations say.
use Rattle.std.proofs.Common.{◌≡◌, ℕ, List, [], ◌∷◌, Some, refl, sym, subst, ap, ◌∙◌, inl, inr}
use Rattle.std.specs.Prelude.{◌⊎◌, ◌↔◌, Bool, true, false, not, ◌&&◌, ◌||◌, cond, IsTrue, nat_eq, filter}
use Rattle.std.specs.List.{list_any}
use Rattle.std.specs.Str.{bytes_eq}
use Rattle.std.specs.Bool.{Decides}
use Rattle.std.proofs.lemmas.Slice.Eq.{bytes_eq-Decides}
use Rattle.std.proofs.lemmas.Bool.{eq-eqb, eqb-true}
use Rattle.mm_classes.specs.declared.class.Member.{Member}
use Rattle.mm_classes.specs.Lists.{Has, first, later, Distinct}
use Rattle.mm_classes.specs.Classes.{Class, members_of, IsClassList, Derives}
use Rattle.mm_classes.specs.Subobjects.{Path, subobjects_of, end_of, compose, IsWithin}
use Rattle.mm_classes.proofs.Subs.{subobjects_are, are_subobjects, subobjects-Distinct}
use Rattle.mm_classes.proofs.Deriving.{derives_ends, sub_derives}
use Rattle.mm_core.specs.Heads.{same_function}
use Rattle.mm_core.specs.Sets.{only, is_some_of, contains, ups, is_a, arounds, tops}
use Rattle.mm_core.specs.Finals.{overriders}
use Rattle.mm_core.specs.Relations.{IsOnly, IsWay, IsAround, IsOverrider, IsTop, Reads}

-- ---- lists

pub and_is : (a b : Bool) → (a && b) ≡ true → (a ≡ true) × (b ≡ true)
and_is true b e = (refl, e)
and_is false b e = cc

pub is_and : (a b : Bool) → a ≡ true → b ≡ true → (a && b) ≡ true
is_and a b e h = rw e h

module _ {X : Type 0} (p : X → Bool) where
  pub filter-from : (xs : List X) (x : X) → Has (filter p xs) x → Has xs x × (p x ≡ true)
  filter-from [] x h = elim h [ ]
  filter-from (y ∷ ys) x h =
      elim (p y) as (λ b. p y ≡ b → Has (cond b (y ∷ filter p ys) (filter p ys)) x → Has (y ∷ ys) x × (p x ≡ true)) [
        | true ↦ λ e k. at_true y ys x e k (λ i. filter-from ys x i)
        | false ↦ λ e k. (let r = filter-from ys x k in (later r.0, r.1))
      ] refl h
    where
      at_true : (y : X) (ys : List X) (x : X) → p y ≡ true → Has (y ∷ filter p ys) x → (Has (filter p ys) x → Has ys x × (p x ≡ true)) → Has (y ∷ ys) x × (p x ≡ true)
      at_true y ys x e (first k) f = (first k, subst (λ z. p z ≡ true) k e)
      at_true y ys x e (later k) f = (let r = f k in (later r.0, r.1))

  in_cond : (b : Bool) (y : X) (ys : List X) (x : X) → Has ys x → Has (cond b (y ∷ ys) ys) x
  in_cond true y ys x h = later h
  in_cond false y ys x h = h

  pub filter-has : (xs : List X) (x : X) → Has xs x → p x ≡ true → Has (filter p xs) x
  filter-has [] x h e = elim h [ ]
  filter-has (y ∷ ys) x (first h) e = rw (subst (λ z. p z ≡ true) (sym h) e) (first h)
  filter-has (y ∷ ys) x (later h) e = in_cond (p y) y (filter p ys) x (filter-has ys x h e)

  distinct_cond : (b : Bool) (y : X) (ys : List X) → (Has ys y → ⊥) → Distinct ys → Distinct (cond b (y ∷ ys) ys)
  distinct_cond true y ys n d = (n, d)
  distinct_cond false y ys n d = d

  pub filter-Distinct : (xs : List X) → Distinct xs → Distinct (filter p xs)
  filter-Distinct [] d = tt
  filter-Distinct (y ∷ ys) d = distinct_cond (p y) y (filter p ys) (λ h. d.0 (filter-from ys y h).0) (filter-Distinct ys d.1)

  or_is : (a b : Bool) → (a || b) ≡ true → (a ≡ true) ⊎ (b ≡ true)
  or_is true b e = inl refl
  or_is false b e = inr e

  pub any-from : (xs : List X) → list_any p xs ≡ true → (x : X) × Has xs x × (p x ≡ true)
  any-from [] e = cc
  any-from (y ∷ ys) e = elim (or_is (p y) (list_any p ys) e) [ inl h ↦ (y, first refl, h) | inr h ↦ (let r = any-from ys h in (r.0, later r.1, r.2)) ]

  or_right : (a b : Bool) → b ≡ true → (a || b) ≡ true
  or_right true b e = refl
  or_right false b e = e

  pub any-has : (xs : List X) (x : X) → Has xs x → p x ≡ true → list_any p xs ≡ true
  any-has [] x h e = elim h [ ]
  any-has (y ∷ ys) x (first h) e = rw (subst (λ z. p z ≡ true) (sym h) e) refl
  any-has (y ∷ ys) x (later h) e = or_right (p y) (list_any p ys) (any-has ys x h e)

module _ {X : Type 0} where
  only-from : (xs : List X) (x : X) → only xs ≡ Some x → IsOnly (Has xs) x
  only-from [] x e = cc
  only-from (y ∷ []) x e = let k : y ≡ x = cc in record { has = first k; no_other = λ z h. none_other z h ∙ k }
    where
      none_other : (z : X) → Has (y ∷ []) z → z ≡ y
      none_other z (first h) = sym h
      none_other z (later h) = elim h [ ]
  only-from (y ∷ z ∷ ys) x e = cc

  only-has : (xs : List X) (x : X) → Distinct xs → IsOnly (Has xs) x → only xs ≡ Some x
  only-has [] x d h = absurd (nothing h.has)
    where
      nothing : Has [] x → ⊥
      nothing k = elim k [ ]
  only-has (y ∷ []) x d h = ap Some (h.no_other y (first refl))
  only-has (y ∷ z ∷ ys) x d h = absurd (d.0 (first (h.no_other z (later (first refl)) ∙ sym (h.no_other y (first refl)))))

  -- the only element of a list, where its elements are those with a property
  only_is : (P : X → Type 0) (xs : List X) → ((x : X) → Has xs x ↔ P x) → Distinct xs → (x : X) → (only xs ≡ Some x) ↔ IsOnly P x
  only_is P xs same d x = (
    (λ e. let h = only-from xs x e in record { has = (same x).0 h.has; no_other = λ y k. h.no_other y ((same y).1 k) }),
    (λ h. only-has xs x d (record { has = (same x).1 h.has; no_other = λ y k. h.no_other y ((same y).0 k) })),
  )

-- ---- subobjects

module _ (g : List Class) (ok : IsClassList g) where
  pub contains-Within : (t s : Path) → Decides (contains g t s) (IsWithin g s t)
  contains-Within t s = (
    (λ e. let r = any-from (λ q. bytes_eq (compose t q) s) (subobjects_of g (end_of t)) e in (r.0, subobjects_are g ok (end_of t) r.0 r.1, (bytes_eq-Decides (compose t r.0) s).0 r.2)),
    (λ h. any-has (λ q. bytes_eq (compose t q) s) (subobjects_of g (end_of t)) h.0 (are_subobjects g ok (end_of t) h.0 h.1) ((bytes_eq-Decides (compose t h.0) s).1 h.2)),
  )

  pub in_ups : (c b : ℕ) (q : Path) → Has (ups g c b) q ↔ IsWay g c b q
  in_ups c b q = (
    (λ h. let r = filter-from (λ q. nat_eq (end_of q) b) (subobjects_of g c) q h in (subobjects_are g ok c q r.0, eqb-true (end_of q) b r.1)),
    (λ h. filter-has (λ q. nat_eq (end_of q) b) (subobjects_of g c) q (are_subobjects g ok c q h.0) (eq-eqb (end_of q) b h.1)),
  )

  ups-Distinct : (c b : ℕ) → Distinct (ups g c b)
  ups-Distinct c b = filter-Distinct (λ q. nat_eq (end_of q) b) (subobjects_of g c) (subobjects-Distinct g ok c)

  pub in_arounds : (d : ℕ) (s : Path) (c : ℕ) (t : Path) → Has (arounds g d s c) t ↔ IsAround g d s c t
  in_arounds d s c t = (
    (λ h. let r = filter-from (λ u. contains g u s) (ups g d c) t h in let k = (in_ups d c t).0 r.0 in (k.0, k.1, (contains-Within t s).0 r.1)),
    (λ h. filter-has (λ u. contains g u s) (ups g d c) t ((in_ups d c t).1 (h.0, h.1)) ((contains-Within t s).1 h.2)),
  )

  -- what a final overrider is among
  abbrev declares : Path → Member → Path → Bool
  declares s m t = contains g t s && list_any (same_function m) (members_of g (end_of t))

  in_overriders : (d : ℕ) (s : Path) (m : Member) (t : Path) → Has (overriders g d s m) t ↔ IsOverrider g d s m t
  in_overriders d s m t = (
    (λ h. let r = filter-from (declares s m) (subobjects_of g d) t h in let k = and_is (contains g t s) (list_any (same_function m) (members_of g (end_of t))) r.1 in (subobjects_are g ok d t r.0, (contains-Within t s).0 k.0, k.1)),
    (λ h. filter-has (declares s m) (subobjects_of g d) t (are_subobjects g ok d t h.0) (is_and (contains g t s) (list_any (same_function m) (members_of g (end_of t))) ((contains-Within t s).1 h.1) h.2)),
  )

  overriders-Distinct : (d : ℕ) (s : Path) (m : Member) → Distinct (overriders g d s m)
  overriders-Distinct d s m = filter-Distinct (declares s m) (subobjects_of g d) (subobjects-Distinct g ok d)

  -- ---- those that no other one contains

  abbrev beats : Path → Path → Bool
  beats t u = not (bytes_eq u t) && contains g u t

  not_is : (b : Bool) → not b ≡ true → b ≡ false
  not_is true e = cc
  not_is false e = refl

  is_not : (b : Bool) → b ≡ false → not b ≡ true
  is_not b e = rw e refl

  true_or_false : (b : Bool) → (b ≡ true) ⊎ (b ≡ false)
  true_or_false true = inl refl
  true_or_false false = inr refl

  in_tops : (P : Path → Type 0) (ts : List Path) → ((u : Path) → Has ts u ↔ P u) → (t : Path) → Has (tops g ts) t ↔ IsTop g P t
  in_tops P ts same t = (
    (λ h. let r = filter-from (λ v. not (list_any (beats v) ts)) ts t h in ((same t).0 r.0, λ u pu w. unbeaten u ((same u).1 pu) w (not_is (list_any (beats t) ts) r.1))),
    (λ h. filter-has (λ v. not (list_any (beats v) ts)) ts t ((same t).1 h.0) (is_not (list_any (beats t) ts) (elim (true_or_false (list_any (beats t) ts)) [ inl e ↦ absurd (beaten h e) | inr e ↦ e ]))),
  )
    where
      unbeaten : (u : Path) → Has ts u → IsWithin g t u → list_any (beats t) ts ≡ false → u ≡ t
      unbeaten u h w e = elim (true_or_false (bytes_eq u t)) [
        | inl k ↦ (bytes_eq-Decides u t).0 k
        | inr k ↦ (let x = any-has (beats t) ts u h (is_and (not (bytes_eq u t)) (contains g u t) (is_not (bytes_eq u t) k) ((contains-Within u t).1 w)) in let y : true ≡ false = sym x ∙ e in cc)
      ]

      beaten : IsTop g P t → list_any (beats t) ts ≡ true → ⊥
      beaten top e =
          let r = any-from (beats t) ts e in
          let k = and_is (not (bytes_eq r.0 t)) (contains g r.0 t) r.2 in
          let i = top.1 r.0 ((same r.0).0 r.1) ((contains-Within r.0 t).0 k.1) in
          let x : bytes_eq r.0 t ≡ true = (bytes_eq-Decides r.0 t).1 i in
          let y : bytes_eq r.0 t ≡ false = not_is (bytes_eq r.0 t) k.0 in
          let z : true ≡ false = sym x ∙ y in cc

  -- ---- derivation

  some_has : (xs : List Path) → is_some_of xs ≡ true → (x : Path) × Has xs x
  some_has [] e = cc
  some_has (x ∷ xs) e = (x, first refl)

  pub has_some : (xs : List Path) (x : Path) → Has xs x → is_some_of xs ≡ true
  has_some [] x h = elim h [ ]
  has_some (y ∷ ys) x h = refl

  pub is_a-way : (c b : ℕ) → IsTrue (is_a g c b) → (q : Path) × IsWay g c b q
  is_a-way c b e = let r = some_has (ups g c b) e in (r.0, (in_ups c b r.0).0 r.1)

  pub way-is_a : (c b : ℕ) (q : Path) → IsWay g c b q → IsTrue (is_a g c b)
  way-is_a c b q h = has_some (ups g c b) q ((in_ups c b q).1 h)

  whole : (c b : ℕ) → c ≡ b → IsWay g c b (c ∷ [])
  whole c b e = ((inl refl, tt), e)

  pub is_a-Derives : (c b : ℕ) → IsTrue (is_a g c b) ↔ ((c ≡ b) ⊎ Derives g c b)
  is_a-Derives c b = (
    (λ e. let r = is_a-way c b e in elim (sub_derives g c r.0 r.1.0) [ inl k ↦ inl (sym k ∙ r.1.1) | inr d ↦ inr (subst (Derives g c) r.1.1 d) ]),
    elim [ inl e ↦ way-is_a c b (c ∷ []) (whole c b e) | inr d ↦ (let r = derives_ends g c b d in way-is_a c b r.0 (r.1, r.2)) ],
  )

  -- the law
  pub reads_sets : Reads g
  reads_sets = record {
    ways = λ c b q. only_is (IsWay g c b) (ups g c b) (in_ups c b) (ups-Distinct c b) q;
    around = λ d s c t. only_is (IsAround g d s c) (arounds g d s c) (in_arounds d s c) (filter-Distinct (λ u. contains g u s) (ups g d c) (ups-Distinct d c)) t;
    final = λ d s m t. only_is (IsTop g (IsOverrider g d s m)) (tops g (overriders g d s m)) (in_tops (IsOverrider g d s m) (overriders g d s m) (in_overriders d s m)) (filter-Distinct (λ v. not (list_any (beats v) (overriders g d s m))) (overriders g d s m) (overriders-Distinct d s m)) t;
    derives = is_a-Derives;
  }
