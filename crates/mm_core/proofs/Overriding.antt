-- Overriding orders declarations.
use Rattle.std.proofs.Common.{◌≡◌, ℕ, ◌+◌, ◌*◌, List, [], ◌∷◌, map, refl, sym, subst, ap, ◌∙◌, inl, inr, arith}
use Rattle.std.specs.Prelude.{Bool, true, false, not, ◌&&◌, IsTrue, if◌then◌else◌}
use Rattle.std.specs.Bool.{beq}
use Rattle.std.specs.Str.{bytes_eq}
use Rattle.std.proofs.lemmas.Slice.Eq.{bytes_eq-Decides}
use Rattle.std.proofs.lemmas.Bool.{eq-eqb, eqb-true}
use Rattle.mm_classes.specs.declared.class.Ty.{Ty}
use Rattle.mm_classes.specs.declared.class.Ty.TheVariants as ty
use Rattle.mm_classes.specs.Classes.{Class, IsClassList}
use Rattle.mm_classes.specs.Subobjects.{IsSubobject, end_of, compose}
use Rattle.mm_classes.proofs.Compose.{compose-sub, compose-end}
use Rattle.mm_classes.proofs.Deriving.{derives_falls}
use Rattle.mm_core.specs.declared.part.CoreParam.{CoreParam}
use Rattle.mm_core.specs.Tree.{Function}
use Rattle.mm_core.specs.Heads.{type_code, same_type, same_types, types_of_params}
use Rattle.mm_core.specs.Sets.{is_a}
use Rattle.mm_core.specs.Families.{type_overrides, param_overrides, params_override, overrides}
use Rattle.mm_core.specs.Relations.{Orders}
use Rattle.mm_core.proofs.Sets.{and_is, is_and, is_a-way, way-is_a, is_a-Derives}

module _ (g : List Class) (ok : IsClassList g) where
  is_a-through : (c b a : ℕ) → IsTrue (is_a g c b) → IsTrue (is_a g b a) → IsTrue (is_a g c a)
  is_a-through c b a h k =
      let p = is_a-way g ok c b h in
      let q = is_a-way g ok b a k in
      let s : IsSubobject g (end_of p.0) q.0 = subst (λ z. IsSubobject g z q.0) (sym p.1.1) q.1.0 in
      way-is_a g ok c a (compose p.0 q.0) (compose-sub g c p.0 q.0 p.1.0 s, compose-end g c p.0 q.0 p.1.0 s ∙ q.1.1)

  is_a-same : (c b : ℕ) → IsTrue (is_a g c b) → IsTrue (is_a g b c) → c ≡ b
  is_a-same c b h k = elim ((is_a-Derives g ok c b).0 h) [
    | inl e ↦ e
    | inr d ↦ elim ((is_a-Derives g ok b c).0 k) [
      | inl e ↦ sym e
      | inr d' ↦ (let x = derives_falls g ok c b d in let y = derives_falls g ok b c d' in absurd (let z : ⊥ = omega arith in z))
    ]
  ]

  -- ---- types

  types-through : (t u v : Ty) → IsTrue (type_overrides g t u) → IsTrue (type_overrides g u v) → IsTrue (type_overrides g t v)
  types-through (ty.Ptr c) (ty.Ptr b) (ty.Ptr a) h k = is_a-through c b a h k
  types-through (ty.Ref c) (ty.Ref b) (ty.Ref a) h k = is_a-through c b a h k
  types-through t u v h k = cc

  types-same : (t u v : Ty) → IsTrue (type_overrides g t u) → IsTrue (type_overrides g u v) → type_code t ≡ type_code v → type_code t ≡ type_code u
  types-same (ty.Ptr c) (ty.Ptr b) (ty.Ptr a) h k e = let x : a ≡ c = omega arith in ap (λ z. z * 2 + 4) (is_a-same c b h (subst (λ z. IsTrue (is_a g b z)) x k))
  types-same (ty.Ref c) (ty.Ref b) (ty.Ref a) h k e = let x : a ≡ c = omega arith in ap (λ z. z * 2 + 5) (is_a-same c b h (subst (λ z. IsTrue (is_a g b z)) x k))
  types-same t u v h k e = cc

  -- ---- parameters

  abbrev over : Bool → Bool → Ty → Ty → Bool
  over v v' t u = beq v v' && (if v then type_overrides g t u else same_type t u)

  over-through : (v v' v'' : Bool) (t u w : Ty) → IsTrue (over v v' t u) → IsTrue (over v' v'' u w) → IsTrue (over v v'' t w)
  over-through true true true t u w h k = types-through t u w h k
  over-through false false false t u w h k = eq-eqb (type_code t) (type_code w) (eqb-true (type_code t) (type_code u) h ∙ eqb-true (type_code u) (type_code w) k)
  over-through v v' v'' t u w h k = cc

  over-same : (v v' v'' : Bool) (t u w : Ty) → IsTrue (over v v' t u) → IsTrue (over v' v'' u w) → type_code t ≡ type_code w → type_code t ≡ type_code u
  over-same true true true t u w h k e = types-same t u w h k e
  over-same false false false t u w h k e = eqb-true (type_code t) (type_code u) h
  over-same v v' v'' t u w h k e = cc

  params-through : (qs us ws : List CoreParam) → IsTrue (params_override g qs us) → IsTrue (params_override g us ws) → IsTrue (params_override g qs ws)
  params-through [] [] [] h k = refl
  params-through (q ∷ qs) (u ∷ us) (w ∷ ws) h k =
      let a = and_is (param_overrides g q u) (params_override g qs us) h in
      let b = and_is (param_overrides g u w) (params_override g us ws) k in
      is_and (param_overrides g q w) (params_override g qs ws) (over-through q.is_virtual u.is_virtual w.is_virtual q.ty u.ty w.ty a.0 b.0) (params-through qs us ws a.1 b.1)
  params-through qs us ws h k = cc

  abbrev codes_of : List CoreParam → List ℕ
  codes_of qs = map type_code (types_of_params qs)

  params-same : (qs us ws : List CoreParam) → IsTrue (params_override g qs us) → IsTrue (params_override g us ws) → codes_of qs ≡ codes_of ws → codes_of qs ≡ codes_of us
  params-same [] [] [] h k e = refl
  params-same (q ∷ qs) (u ∷ us) (w ∷ ws) h k e =
      let a = and_is (param_overrides g q u) (params_override g qs us) h in
      let b = and_is (param_overrides g u w) (params_override g us ws) k in
      let e0 : type_code q.ty ≡ type_code w.ty = cc in
      let e1 : codes_of qs ≡ codes_of ws = cc in
      let r0 = over-same q.is_virtual u.is_virtual w.is_virtual q.ty u.ty w.ty a.0 b.0 e0 in
      let r1 = params-same qs us ws a.1 b.1 e1 in
      cc
  params-same qs us ws h k e = cc

  -- ---- declarations

  differ_is : (b : Bool) → not b ≡ true → b ≡ false
  differ_is true e = cc
  differ_is false e = refl

  not_itself : (r : Function) → IsTrue (overrides g r r) → ⊥
  not_itself r h =
      let a = and_is (bytes_eq r.name r.name) (params_override g r.params r.params && not (same_types (types_of_params r.params) (types_of_params r.params))) h in
      let b = and_is (params_override g r.params r.params) (not (same_types (types_of_params r.params) (types_of_params r.params))) a.1 in
      let x = differ_is (same_types (types_of_params r.params) (types_of_params r.params)) b.1 in
      let y = (bytes_eq-Decides (codes_of r.params) (codes_of r.params)).1 refl in
      let z : true ≡ false = sym y ∙ x in cc

  differing : (b : Bool) → (b ≡ true → ⊥) → not b ≡ true
  differing true h = absurd (h refl)
  differing false h = refl

  transitive : (r q o : Function) → IsTrue (overrides g r q) → IsTrue (overrides g q o) → IsTrue (overrides g r o)
  transitive r q o h k =
      let a = and_is (bytes_eq r.name q.name) (params_override g r.params q.params && not (same_types (types_of_params r.params) (types_of_params q.params))) h in
      let b = and_is (params_override g r.params q.params) (not (same_types (types_of_params r.params) (types_of_params q.params))) a.1 in
      let c = and_is (bytes_eq q.name o.name) (params_override g q.params o.params && not (same_types (types_of_params q.params) (types_of_params o.params))) k in
      let d = and_is (params_override g q.params o.params) (not (same_types (types_of_params q.params) (types_of_params o.params))) c.1 in
      let names = (bytes_eq-Decides r.name o.name).1 ((bytes_eq-Decides r.name q.name).0 a.0 ∙ (bytes_eq-Decides q.name o.name).0 c.0) in
      let params = params-through r.params q.params o.params b.0 d.0 in
      let types = differing (same_types (types_of_params r.params) (types_of_params o.params)) (λ e.
      let s = params-same r.params q.params o.params b.0 d.0 ((bytes_eq-Decides (codes_of r.params) (codes_of o.params)).0 e) in
      let x = (bytes_eq-Decides (codes_of r.params) (codes_of q.params)).1 s in
      let y = differ_is (same_types (types_of_params r.params) (types_of_params q.params)) b.1 in
      let z : true ≡ false = sym x ∙ y in cc) in
      is_and (bytes_eq r.name o.name) (params_override g r.params o.params && not (same_types (types_of_params r.params) (types_of_params o.params))) names (is_and (params_override g r.params o.params) (not (same_types (types_of_params r.params) (types_of_params o.params))) params types)

  -- the law
  pub orders : Orders g
  orders = record { itself = not_itself; through = transitive }
