-- The test for a base is that one class derives from the other.
use Rattle.std.proofs.Common.{◌≡◌, ◌≢◌, ℕ, ◌≤◌, List, [], length, map, refl, sym, subst, ap, ◌∙◌, inl, inr, arith}
use Rattle.std.specs.Prelude.{Bool, true, false, not, ◌&&◌, nat_eq}
use Rattle.std.specs.Bool.{Decides}
use Rattle.std.proofs.lemmas.Bool.Decides.{nat_tests}
use Rattle.std.proofs.lemmas.List.{get_or_past}
use Rattle.mm_classes.specs.Lists.{Has, has}
use Rattle.mm_classes.specs.Classes.{Class, class_at, bases_of, unknown, IsClassList, Derives, direct, through}
use Rattle.mm_classes.specs.Subobjects.{subobjects_of, end_of}
use Rattle.mm_classes.proofs.Lists.{Has-map, Has-map_from, has-true, has-Has}
use Rattle.mm_classes.proofs.Subs.{subobjects_are, are_subobjects}
use Rattle.mm_classes.proofs.Deriving.{derives_ends, sub_derives, itself, derives_falls}
use Rattle.mm_overload.specs.Rank.{is_base}

both : (b c : Bool) → (not b && c) ≡ true → (b ≡ false) × (c ≡ true)
both true c e = cc
both false c e = (refl, e)

of_both : (b c : Bool) → b ≡ false → c ≡ true → (not b && c) ≡ true
of_both b c e f = rw (e, f) refl

module _ (g : List Class) (ok : IsClassList g) where
  pub is_base-decides : (c b : ℕ) → Decides (is_base g c b) (Derives g c b)
  is_base-decides c b = (to, back) where
    to : is_base g c b ≡ true → Derives g c b
    to e =
        let t = both (nat_eq c b) (has (map end_of (subobjects_of g c)) b) e in
        let ne : c ≢ b = (let u = t.0 in grind (arith, nat_tests)) in
        let h = Has-map_from end_of (subobjects_of g c) (has-true (map end_of (subobjects_of g c))
        b t.1) in
        elim (sub_derives g c h.0 (subobjects_are g ok c h.0 h.1)) [
          | inl k ↦ absurd (ne (sym k ∙ h.2))
          | inr d ↦ subst (Derives g c) h.2 d
        ]

    back : Derives g c b → is_base g c b ≡ true
    back d =
        let r = derives_ends g c b d in
        let h = subst (Has (map end_of (subobjects_of g c))) r.2 (Has-map end_of (subobjects_of g
        c) (are_subobjects g ok c r.0 r.1)) in
        let ne : c ≢ b = λ e. itself g ok c b e d in
        let f : nat_eq c b ≡ false = grind (arith, nat_tests) in
        of_both (nat_eq c b) (has (map end_of (subobjects_of g c)) b) f (has-Has (map end_of
        (subobjects_of g c)) b h)

  -- a class that is not complete has no bases
  none : (c b : ℕ) → bases_of g c ≡ [] → Derives g c b → ⊥
  none c b e (direct x h k) = no (subst (λ xs. Has xs x) e h) where
    no : {X : Type 0} {x : X} → Has [] x → ⊥
    no h = elim h [ ]
  none c b e (through x h d) = no (subst (λ xs. Has xs x) e h) where
    no : {X : Type 0} {x : X} → Has [] x → ⊥
    no h = elim h [ ]

  pub not_complete : (c b : ℕ) → (class_at g c).complete ≡ false → is_base g c b ≡ false
  not_complete c b e = which (is_base g c b) refl where
    which : (t : Bool) → is_base g c b ≡ t → is_base g c b ≡ false
    which true k = absurd (none c b (ok.bare c e).0 ((is_base-decides c b).0 k))
    which false k = k

  pub not_declared : (c b : ℕ) → length g ≤ c → is_base g c b ≡ false
  not_declared c b l = not_complete c b (ap (λ (x : Class). x.complete) (get_or_past g c unknown
      l))

  -- no class is a base of its base
  pub one_way : (c b : ℕ) → is_base g c b ≡ true → is_base g b c ≡ true → ⊥
  one_way c b e k =
      let x = derives_falls g ok c b ((is_base-decides c b).0 e) in
      let y = derives_falls g ok b c ((is_base-decides b c).0 k) in
      omega arith

  pub answer-base : (c b : ℕ) (r : Bool) → Decides r (Derives g c b) → r ≡ is_base g c b
  answer-base c b r d = which r (is_base g c b) d (is_base-decides c b) where
    which : (r s : Bool) → Decides r (Derives g c b) → Decides s (Derives g c b) → r ≡ s
    which true true d k = refl
    which false false d k = refl
    which true false d k = absurd (let z : false ≡ true = k.1 (d.0 refl) in cc)
    which false true d k = absurd (let z : false ≡ true = d.1 (k.0 refl) in cc)
