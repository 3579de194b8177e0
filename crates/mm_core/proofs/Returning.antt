-- The result of a call, moved to the class of the declaration called, fits the type of that declaration.
use Rattle.std.proofs.Common.{◌≡◌, ℕ, List, [], ◌∷◌, refl, sym, subst, ap, ◌∙◌, inl, inr, arith}
use Rattle.std.specs.Prelude.{◌⊎◌, true, Option, Some, None}
use Rattle.std.proofs.lemmas.Bool.{eqb-true}
use Rattle.mm_classes.specs.declared.class.Ty.{Ty}
use Rattle.mm_classes.specs.declared.class.Ty.TheVariants as ty
use Rattle.mm_classes.specs.Classes.{Class, IsClassList}
use Rattle.mm_classes.specs.Subobjects.{Path, IsSubobject, end_of, compose}
use Rattle.mm_classes.proofs.Compose.{compose-sub, compose-end}
use Rattle.mm_core.specs.Heads.{type_code, same_type}
use Rattle.mm_core.specs.State.{Value, Truth, Number, Word, Null, At, Nothing, Object, State, class_of}
use Rattle.mm_core.specs.Sets.{only, is_one, ups}
use Rattle.mm_core.specs.Moves.{move_back, result_back}
use Rattle.mm_core.specs.Dispatch.{is_covariant}
use Rattle.mm_core.specs.Fits.{Shows, Fits, IsState}
use Rattle.mm_core.specs.Relations.{IsWay}
use Rattle.mm_core.proofs.Heap.{grew_self, Operates}
use Rattle.mm_core.proofs.Sets.{reads_sets}

-- ---- types

pub code_same : (t u : Ty) → type_code t ≡ type_code u → t ≡ u
code_same ty.Void ty.Void e = refl
code_same ty.Void ty.Bool e = cc
code_same ty.Void ty.Int e = cc
code_same ty.Void ty.Unsigned e = cc
code_same ty.Void (ty.Ptr d) e = absurd (let z : ⊥ = omega arith in z)
code_same ty.Void (ty.Ref d) e = absurd (let z : ⊥ = omega arith in z)
code_same ty.Bool ty.Void e = cc
code_same ty.Bool ty.Bool e = refl
code_same ty.Bool ty.Int e = cc
code_same ty.Bool ty.Unsigned e = cc
code_same ty.Bool (ty.Ptr d) e = absurd (let z : ⊥ = omega arith in z)
code_same ty.Bool (ty.Ref d) e = absurd (let z : ⊥ = omega arith in z)
code_same ty.Int ty.Void e = cc
code_same ty.Int ty.Bool e = cc
code_same ty.Int ty.Int e = refl
code_same ty.Int ty.Unsigned e = cc
code_same ty.Int (ty.Ptr d) e = absurd (let z : ⊥ = omega arith in z)
code_same ty.Int (ty.Ref d) e = absurd (let z : ⊥ = omega arith in z)
code_same ty.Unsigned ty.Void e = cc
code_same ty.Unsigned ty.Bool e = cc
code_same ty.Unsigned ty.Int e = cc
code_same ty.Unsigned ty.Unsigned e = refl
code_same ty.Unsigned (ty.Ptr d) e = absurd (let z : ⊥ = omega arith in z)
code_same ty.Unsigned (ty.Ref d) e = absurd (let z : ⊥ = omega arith in z)
code_same (ty.Ptr c) ty.Void e = absurd (let z : ⊥ = omega arith in z)
code_same (ty.Ptr c) ty.Bool e = absurd (let z : ⊥ = omega arith in z)
code_same (ty.Ptr c) ty.Int e = absurd (let z : ⊥ = omega arith in z)
code_same (ty.Ptr c) ty.Unsigned e = absurd (let z : ⊥ = omega arith in z)
code_same (ty.Ptr c) (ty.Ptr d) e = ap ty.Ptr (let z : c ≡ d = omega arith in z)
code_same (ty.Ptr c) (ty.Ref d) e = absurd (let z : ⊥ = omega arith in z)
code_same (ty.Ref c) ty.Void e = absurd (let z : ⊥ = omega arith in z)
code_same (ty.Ref c) ty.Bool e = absurd (let z : ⊥ = omega arith in z)
code_same (ty.Ref c) ty.Int e = absurd (let z : ⊥ = omega arith in z)
code_same (ty.Ref c) ty.Unsigned e = absurd (let z : ⊥ = omega arith in z)
code_same (ty.Ref c) (ty.Ptr d) e = absurd (let z : ⊥ = omega arith in z)
code_same (ty.Ref c) (ty.Ref d) e = ap ty.Ref (let z : c ≡ d = omega arith in z)

pub same_is : (t u : Ty) → same_type t u ≡ true → t ≡ u
same_is t u e = code_same t u (eqb-true (type_code t) (type_code u) e)

one_some : (xs : List Path) → is_one xs ≡ true → only xs ≡ None → ⊥
one_some [] e k = cc
one_some (x ∷ []) e k = cc
one_some (x ∷ y ∷ ys) e k = cc

-- ---- moves

module _ (g : List Class) (ok : IsClassList g) where
  -- a pointer moved up along a way from its class
  pub up_shows : (xs : List Object) (c b o : ℕ) (t q : Path) → IsWay g c b q → Shows g xs c o t → Shows g xs b o (compose t q)
  up_shows xs c b o t q w f =
      let s : IsSubobject g (end_of t) q = subst (λ z. IsSubobject g z q) (sym f.ends) w.0 in
      record { there = f.there; part = compose-sub g (class_of xs o) t q f.part s; ends = compose-end g (class_of xs o) t q f.part s ∙ w.1 }

  pointer_back : (c b : ℕ) (way : Option Path) (v : Value) (s : State) → ((q : Path) → way ≡ Some q → IsWay g c b q) → (way ≡ None → c ≡ b) → Fits g s.objects (ty.Ptr c) v → IsState g s → Operates g (ty.Ptr b) s (move_back g way v s)
  pointer_back c b None v s w n f i = record { fits = subst (λ z. Fits g s.objects (ty.Ptr z) v) (n refl) f; grew = grew_self s.objects; state = i }
  pointer_back c b (Some q) Null s w n f i = record { fits = tt; grew = grew_self s.objects; state = i }
  pointer_back c b (Some q) (At o t) s w n f i = record { fits = up_shows s.objects c b o t q (w q refl) f; grew = grew_self s.objects; state = i }
  pointer_back c b (Some q) (Truth x) s w n f i = absurd f
  pointer_back c b (Some q) (Number x) s w n f i = absurd f
  pointer_back c b (Some q) (Word x) s w n f i = absurd f
  pointer_back c b (Some q) Nothing s w n f i = absurd f

  reference_back : (c b : ℕ) (way : Option Path) (v : Value) (s : State) → ((q : Path) → way ≡ Some q → IsWay g c b q) → (way ≡ None → c ≡ b) → Fits g s.objects (ty.Ref c) v → IsState g s → Operates g (ty.Ref b) s (move_back g way v s)
  reference_back c b None v s w n f i = record { fits = subst (λ z. Fits g s.objects (ty.Ref z) v) (n refl) f; grew = grew_self s.objects; state = i }
  reference_back c b (Some q) (At o t) s w n f i = record { fits = up_shows s.objects c b o t q (w q refl) f; grew = grew_self s.objects; state = i }
  reference_back c b (Some q) Null s w n f i = absurd f
  reference_back c b (Some q) (Truth x) s w n f i = absurd f
  reference_back c b (Some q) (Number x) s w n f i = absurd f
  reference_back c b (Some q) (Word x) s w n f i = absurd f
  reference_back c b (Some q) Nothing s w n f i = absurd f

  same_class : (c d : ℕ) → (c ≡ d) ⊎ (is_one (ups g c d) ≡ true) → only (ups g c d) ≡ None → c ≡ d
  same_class c d (inl e) k = e
  same_class c d (inr e) k = absurd (one_some (ups g c d) e k)

  pointer_class : (c d : ℕ) → (ty.Ptr c ≡ ty.Ptr d) ⊎ (is_covariant g (ty.Ptr c) (ty.Ptr d) ≡ true) → (c ≡ d) ⊎ (is_one (ups g c d) ≡ true)
  pointer_class c d (inl e) = inl (let z : c ≡ d = cc in z)
  pointer_class c d (inr e) = inr e

  reference_class : (c d : ℕ) → (ty.Ref c ≡ ty.Ref d) ⊎ (is_covariant g (ty.Ref c) (ty.Ref d) ≡ true) → (c ≡ d) ⊎ (is_one (ups g c d) ≡ true)
  reference_class c d (inl e) = inl (let z : c ≡ d = cc in z)
  reference_class c d (inr e) = inr e

  -- the same type, or a covariant one
  pub back_fits : (r o : Ty) (v : Value) (s : State) → (r ≡ o) ⊎ (is_covariant g r o ≡ true) → Fits g s.objects r v → IsState g s → Operates g o s (result_back g r o v s)
  back_fits ty.Void ty.Void v s h f i = record { fits = f; grew = grew_self s.objects; state = i }
  back_fits ty.Void ty.Bool v s h f i = (let e : ty.Void ≡ ty.Bool = elim h [ inl e ↦ e | inr k ↦ same_is ty.Void ty.Bool k ] in absurd (let z : ⊥ = cc in z))
  back_fits ty.Void ty.Int v s h f i = (let e : ty.Void ≡ ty.Int = elim h [ inl e ↦ e | inr k ↦ same_is ty.Void ty.Int k ] in absurd (let z : ⊥ = cc in z))
  back_fits ty.Void ty.Unsigned v s h f i = (let e : ty.Void ≡ ty.Unsigned = elim h [ inl e ↦ e | inr k ↦ same_is ty.Void ty.Unsigned k ] in absurd (let z : ⊥ = cc in z))
  back_fits ty.Void (ty.Ptr d) v s h f i = (let e : ty.Void ≡ (ty.Ptr d) = elim h [ inl e ↦ e | inr k ↦ same_is ty.Void (ty.Ptr d) k ] in absurd (let z : ⊥ = cc in z))
  back_fits ty.Void (ty.Ref d) v s h f i = (let e : ty.Void ≡ (ty.Ref d) = elim h [ inl e ↦ e | inr k ↦ same_is ty.Void (ty.Ref d) k ] in absurd (let z : ⊥ = cc in z))
  back_fits ty.Bool ty.Void v s h f i = (let e : ty.Bool ≡ ty.Void = elim h [ inl e ↦ e | inr k ↦ same_is ty.Bool ty.Void k ] in absurd (let z : ⊥ = cc in z))
  back_fits ty.Bool ty.Bool v s h f i = record { fits = f; grew = grew_self s.objects; state = i }
  back_fits ty.Bool ty.Int v s h f i = (let e : ty.Bool ≡ ty.Int = elim h [ inl e ↦ e | inr k ↦ same_is ty.Bool ty.Int k ] in absurd (let z : ⊥ = cc in z))
  back_fits ty.Bool ty.Unsigned v s h f i = (let e : ty.Bool ≡ ty.Unsigned = elim h [ inl e ↦ e | inr k ↦ same_is ty.Bool ty.Unsigned k ] in absurd (let z : ⊥ = cc in z))
  back_fits ty.Bool (ty.Ptr d) v s h f i = (let e : ty.Bool ≡ (ty.Ptr d) = elim h [ inl e ↦ e | inr k ↦ same_is ty.Bool (ty.Ptr d) k ] in absurd (let z : ⊥ = cc in z))
  back_fits ty.Bool (ty.Ref d) v s h f i = (let e : ty.Bool ≡ (ty.Ref d) = elim h [ inl e ↦ e | inr k ↦ same_is ty.Bool (ty.Ref d) k ] in absurd (let z : ⊥ = cc in z))
  back_fits ty.Int ty.Void v s h f i = (let e : ty.Int ≡ ty.Void = elim h [ inl e ↦ e | inr k ↦ same_is ty.Int ty.Void k ] in absurd (let z : ⊥ = cc in z))
  back_fits ty.Int ty.Bool v s h f i = (let e : ty.Int ≡ ty.Bool = elim h [ inl e ↦ e | inr k ↦ same_is ty.Int ty.Bool k ] in absurd (let z : ⊥ = cc in z))
  back_fits ty.Int ty.Int v s h f i = record { fits = f; grew = grew_self s.objects; state = i }
  back_fits ty.Int ty.Unsigned v s h f i = (let e : ty.Int ≡ ty.Unsigned = elim h [ inl e ↦ e | inr k ↦ same_is ty.Int ty.Unsigned k ] in absurd (let z : ⊥ = cc in z))
  back_fits ty.Int (ty.Ptr d) v s h f i = (let e : ty.Int ≡ (ty.Ptr d) = elim h [ inl e ↦ e | inr k ↦ same_is ty.Int (ty.Ptr d) k ] in absurd (let z : ⊥ = cc in z))
  back_fits ty.Int (ty.Ref d) v s h f i = (let e : ty.Int ≡ (ty.Ref d) = elim h [ inl e ↦ e | inr k ↦ same_is ty.Int (ty.Ref d) k ] in absurd (let z : ⊥ = cc in z))
  back_fits ty.Unsigned ty.Void v s h f i = (let e : ty.Unsigned ≡ ty.Void = elim h [ inl e ↦ e | inr k ↦ same_is ty.Unsigned ty.Void k ] in absurd (let z : ⊥ = cc in z))
  back_fits ty.Unsigned ty.Bool v s h f i = (let e : ty.Unsigned ≡ ty.Bool = elim h [ inl e ↦ e | inr k ↦ same_is ty.Unsigned ty.Bool k ] in absurd (let z : ⊥ = cc in z))
  back_fits ty.Unsigned ty.Int v s h f i = (let e : ty.Unsigned ≡ ty.Int = elim h [ inl e ↦ e | inr k ↦ same_is ty.Unsigned ty.Int k ] in absurd (let z : ⊥ = cc in z))
  back_fits ty.Unsigned ty.Unsigned v s h f i = record { fits = f; grew = grew_self s.objects; state = i }
  back_fits ty.Unsigned (ty.Ptr d) v s h f i = (let e : ty.Unsigned ≡ (ty.Ptr d) = elim h [ inl e ↦ e | inr k ↦ same_is ty.Unsigned (ty.Ptr d) k ] in absurd (let z : ⊥ = cc in z))
  back_fits ty.Unsigned (ty.Ref d) v s h f i = (let e : ty.Unsigned ≡ (ty.Ref d) = elim h [ inl e ↦ e | inr k ↦ same_is ty.Unsigned (ty.Ref d) k ] in absurd (let z : ⊥ = cc in z))
  back_fits (ty.Ptr c) ty.Void v s h f i = (let e : (ty.Ptr c) ≡ ty.Void = elim h [ inl e ↦ e | inr k ↦ same_is (ty.Ptr c) ty.Void k ] in absurd (let z : ⊥ = cc in z))
  back_fits (ty.Ptr c) ty.Bool v s h f i = (let e : (ty.Ptr c) ≡ ty.Bool = elim h [ inl e ↦ e | inr k ↦ same_is (ty.Ptr c) ty.Bool k ] in absurd (let z : ⊥ = cc in z))
  back_fits (ty.Ptr c) ty.Int v s h f i = (let e : (ty.Ptr c) ≡ ty.Int = elim h [ inl e ↦ e | inr k ↦ same_is (ty.Ptr c) ty.Int k ] in absurd (let z : ⊥ = cc in z))
  back_fits (ty.Ptr c) ty.Unsigned v s h f i = (let e : (ty.Ptr c) ≡ ty.Unsigned = elim h [ inl e ↦ e | inr k ↦ same_is (ty.Ptr c) ty.Unsigned k ] in absurd (let z : ⊥ = cc in z))
  back_fits (ty.Ptr c) (ty.Ptr d) v s h f i = pointer_back c d (only (ups g c d)) v s (λ q e. (((reads_sets g ok).ways c d q).0 e).has) (same_class c d (pointer_class c d h)) f i
  back_fits (ty.Ptr c) (ty.Ref d) v s h f i = (let e : (ty.Ptr c) ≡ (ty.Ref d) = elim h [ inl e ↦ e | inr k ↦ same_is (ty.Ptr c) (ty.Ref d) k ] in absurd (let z : ⊥ = cc in z))
  back_fits (ty.Ref c) ty.Void v s h f i = (let e : (ty.Ref c) ≡ ty.Void = elim h [ inl e ↦ e | inr k ↦ same_is (ty.Ref c) ty.Void k ] in absurd (let z : ⊥ = cc in z))
  back_fits (ty.Ref c) ty.Bool v s h f i = (let e : (ty.Ref c) ≡ ty.Bool = elim h [ inl e ↦ e | inr k ↦ same_is (ty.Ref c) ty.Bool k ] in absurd (let z : ⊥ = cc in z))
  back_fits (ty.Ref c) ty.Int v s h f i = (let e : (ty.Ref c) ≡ ty.Int = elim h [ inl e ↦ e | inr k ↦ same_is (ty.Ref c) ty.Int k ] in absurd (let z : ⊥ = cc in z))
  back_fits (ty.Ref c) ty.Unsigned v s h f i = (let e : (ty.Ref c) ≡ ty.Unsigned = elim h [ inl e ↦ e | inr k ↦ same_is (ty.Ref c) ty.Unsigned k ] in absurd (let z : ⊥ = cc in z))
  back_fits (ty.Ref c) (ty.Ptr d) v s h f i = (let e : (ty.Ref c) ≡ (ty.Ptr d) = elim h [ inl e ↦ e | inr k ↦ same_is (ty.Ref c) (ty.Ptr d) k ] in absurd (let z : ⊥ = cc in z))
  back_fits (ty.Ref c) (ty.Ref d) v s h f i = reference_back c d (only (ups g c d)) v s (λ q e. (((reads_sets g ok).ways c d q).0 e).has) (same_class c d (reference_class c d h)) f i
