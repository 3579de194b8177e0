-- `main`, and the bodies of functions that may be called.
use Rattle.std.proofs.Common.{◌≡◌, ℕ, suc, ◌<◌, List, [], ◌∷◌, length, refl, arith}
use Rattle.std.specs.Prelude.{Bool, true, false, ◌&&◌, not, if◌then◌else◌, codes, Option, Some, None, slice_get}
use Rattle.std.specs.Str.{bytes_eq}
use Rattle.mm_classes.specs.declared.class.Ty.{Ty}
use Rattle.mm_classes.specs.declared.class.Ty.TheVariants as ty
use Rattle.mm_core.specs.declared.part.CoreParam.{CoreParam}
use Rattle.mm_core.specs.Tree.{Stmt, block, Function, Program}
use Rattle.mm_core.specs.Heads.{same_type, is_main, has_params, argument_types}
use Rattle.mm_core.specs.Run.{number_of_main}
use Rattle.mm_core.specs.ValidProgram.{around, numbers_below, BodyFits}
use Rattle.mm_core.specs.Valid.{IsValidStmt}

abbrev pub IsThere : List Function → ℕ → Type 0
IsThere fs n = (f : Function) × (slice_get fs n ≡ Some f) × ((f.defined && is_main f) ≡ true)

there_at : (f : Function) (fs : List Function) (b : Bool) → (f.defined && is_main f) ≡ b → (number_of_main fs < length fs → IsThere fs (number_of_main fs)) → (if b then 0 else suc (number_of_main fs)) < suc (length fs) → IsThere (f ∷ fs) (if b then 0 else suc (number_of_main fs))
there_at f fs true e ih h = (f, refl, e)
there_at f fs false e ih h = let r = ih (omega arith) in (r.0, r.1, r.2)

pub main_there : (fs : List Function) → number_of_main fs < length fs → IsThere fs (number_of_main fs)
main_there [] h = absurd (let z : ⊥ = omega arith in z)
main_there (f ∷ fs) h = there_at f fs (f.defined && is_main f) refl (main_there fs) h

pub both_are : (x y : Bool) → (x && y) ≡ true → (x ≡ true) × (y ≡ true)
both_are true y e = (refl, e)
both_are false y e = cc

no_params : (qs : List CoreParam) → not (has_params qs) ≡ true → qs ≡ []
no_params [] e = refl
no_params (x ∷ qs) e = cc

is_not : (b : Bool) → not b ≡ true → b ≡ false
is_not true e = cc
is_not false e = refl

pub record IsMain (f : Function) : Type 0 where
  pub member : f.member ≡ false
  pub params : f.params ≡ []
  pub result : f.result ≡ ty.Int

int_is : (t : Ty) → same_type t ty.Int ≡ true → t ≡ ty.Int
int_is ty.Int e = refl
int_is ty.Void e = cc
int_is ty.Bool e = cc
int_is ty.Unsigned e = cc
int_is (ty.Ptr d) e = let z : ⊥ = grind arith in absurd z
int_is (ty.Ref d) e = let z : ⊥ = grind arith in absurd z

pub main_is : (f : Function) → is_main f ≡ true → IsMain f
main_is f e =
    let e1 = both_are (bytes_eq f.name (codes "main")) (not f.member && (not (has_params f.params) && same_type f.result ty.Int)) e in
    let e2 = both_are (not f.member) (not (has_params f.params) && same_type f.result ty.Int) e1.1 in
    let e3 = both_are (not (has_params f.params)) (same_type f.result ty.Int) e2.1 in
    record { member = is_not f.member e2.0; params = no_params f.params e3.0; result = int_is f.result e3.1 }

module _ (p : Program) (callable : Function → Bool) where
  pub record HasBody (f : Function) : Type 0 where
    pub stmt : Stmt
    pub is : f.body ≡ Some stmt
    pub fits : IsValidStmt (around callable p f) f.result false (numbers_below (length (argument_types p.classes f))) stmt

  pub body_of : (f : Function) (d : Bool) (o : Option Stmt) → d ≡ true → f.body ≡ o → BodyFits (around callable p f) f.result d o → HasBody f
  body_of f true (Some (block ss)) e h v = record { stmt = block ss; is = h; fits = v }
  body_of f true None e h v = absurd v
  body_of f true (Some st) e h v = absurd v
  body_of f false o e h v = cc

  pub main_arguments : (f : Function) → IsMain f → argument_types p.classes f ≡ []
  main_arguments f h = rw (h.member, h.params) refl
