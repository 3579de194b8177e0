-- In a merged program every call of a defined function, at every depth, gives what fits.
use Rattle.std.proofs.Common.{◌≡◌, ℕ, zero, suc, List, [], ◌∷◌, refl, sym, subst, arith}
use Rattle.std.specs.Prelude.{◌<◌, ℤ, Bool, true, false, not, ◌&&◌, IsTrue, codes, length, if◌then◌else◌, Option, Some, None, slice_get}
use Rattle.std.specs.Str.{bytes_eq}
use Rattle.mm_base.specs.Num.{is_int}
use Rattle.mm_meaning.specs.Run.{Run, Gives, Stops}
use Rattle.mm_classes.specs.declared.class.Ty.TheVariants as ty
use Rattle.mm_classes.specs.declared.class.Member.{Member}
use Rattle.mm_classes.specs.declared.class.MemberKind.{MemberKind}
use Rattle.mm_classes.specs.declared.class.MemberKind.TheVariants as kind
use Rattle.mm_classes.specs.Lists.{Has}
use Rattle.mm_classes.specs.Classes.{Class, members_of}
use Rattle.mm_core.specs.Tree.{Stmt, Function, Program}
use Rattle.mm_core.specs.Heads.{is_main, has_params, same_type, types_of_params, is_reference, field_type_of, field_type_in, argument_types}
use Rattle.mm_core.specs.State.{Value, Truth, Number, Word, Null, At, Nothing, Object, State, Stop, Trapped, Spent}
use Rattle.mm_core.specs.Scalar.{int_value}
use Rattle.mm_core.specs.Run.{Ended, outcome_of, number_of_main, starting, source_run}
use Rattle.mm_core.specs.declared.part.CoreParam.{CoreParam}
use Rattle.mm_core.specs.Virtual.{Calls}
use Rattle.mm_core.specs.Meaning.{enter_if, enter_body, setting_of, call_of}
use Rattle.mm_core.specs.ValidProgram.{around, BodyFits, TypesAre, IsMerged, IsResolved}
use Rattle.mm_core.specs.Units.{AreNamed}
use Rattle.mm_core.specs.Fits.{Fits, AllFit, IsState}
use Rattle.mm_core.specs.Keeps.{On, Gave, Known, inside, IsSound, ProgramsFit}
use Rattle.mm_core.proofs.Sets.{and_is}
use Rattle.mm_core.proofs.Returning.{same_is}
use Rattle.mm_core.proofs.SoundCalls.{values_fit_types}
use Rattle.mm_core.proofs.Opened.{opens_fit}
use Rattle.mm_core.proofs.Entering.{slice-Has, members_complete, CallsFit, virtual_fits}

kind_plain : (g : List Class) (k : MemberKind) → TypesAre g k → is_reference (field_type_in k) ≡ false
kind_plain g (kind.Field t) h = h.1
kind_plain g (kind.Function ps r v) h = refl

module _ (p : Program) (merged : IsMerged p) (named : AreNamed p) where
  abbrev g : List Class
  g = p.classes

  -- no field is a reference
  plain_at : (c f : ℕ) (o : Option Member) → slice_get (members_of g c) f ≡ o → is_reference (field_type_of o) ≡ false
  plain_at c f None e = refl
  plain_at c f (Some m) e = (let h = slice-Has (members_of g c) f m e in kind_plain g m.kind ((merged.valid.classes c (members_complete g merged.valid.listed c m h)).types m h))

  module _ (resolved : IsResolved p) where
    known : (calls : Calls) → CallsFit p merged named calls → (f : Function) → Known (inside p (λ f. f.defined) calls f)
    known calls fit f = record {
      listed = merged.valid.listed;
      plain = λ c x. plain_at c x (slice_get (members_of g c) x) refl;
      calls_fit = λ n h vs s k e o d i args. fit n h vs s k e d i args;
      opens_fit = λ n h vs s k e o d i args. opens_fit p merged named resolved calls fit n h vs s k e o d i args;
      virtuals_fit = λ c n x v vs s k m i v_fits args. virtual_fits p merged named calls fit c n x v vs s k m i v_fits args;
    }

    body_fits : (calls : Calls) → CallsFit p merged named calls → (f : Function) (d : Bool) (o : Option Stmt) (vs : List Value) (s : State) (k : ℕ) → f.defined ≡ d → IsTrue d → BodyFits (around (λ f. f.defined) p f) f.result d o → IsState g s → AllFit g s.objects (argument_types g f) vs → On (Gave g f.result s) (enter_body (setting_of p calls) f o vs s k)
    body_fits calls fit f true None vs s k e d b i args = absurd b
    body_fits calls fit f true (Some body) vs s k e d b i args = values_fit_types.by p (λ f. f.defined) calls f body vs s k (known calls fit f) b args i
    body_fits calls fit f false o vs s k e d b i args = cc

    if_fits : (calls : Calls) → CallsFit p merged named calls → (o : Option Function) (f : Function) (vs : List Value) (s : State) (k : ℕ) → o ≡ Some f → Has p.functions f → IsTrue f.defined → IsState g s → AllFit g s.objects (argument_types g f) vs → On (Gave g f.result s) (enter_if (setting_of p calls) o vs s k)
    if_fits calls fit o f vs s k e h d i args = subst (λ z. On (Gave g f.result s) (enter_if (setting_of p calls) z vs s k)) (sym e) (body_fits calls fit f f.defined f.body vs s k refl d (merged.valid.functions f h).body i args)

    -- at every depth
    pub whole : (n : ℕ) → CallsFit p merged named (call_of p n)
    whole zero m f vs s k e d i args = tt
    whole (suc n) m f vs s zero e d i args = tt
    whole (suc n) m f vs s (suc k) e d i args = if_fits (call_of p n) (whole n) (slice_get p.functions m) f vs s k e (slice-Has p.functions m f e) d i args

    pub known_whole : (n : ℕ) (f : Function) → Known (inside p (λ f. f.defined) (call_of p n) f)
    known_whole n f = known (call_of p n) (whole n) f

-- ---- runs

main_at : (fs : List Function) → number_of_main fs < length fs → (f : Function) × (slice_get fs (number_of_main fs) ≡ Some f) × IsTrue f.defined × IsTrue (is_main f)
main_at [] l = absurd (let z : ⊥ = omega arith in z)
main_at (f ∷ fs) l = at (f.defined && is_main f) refl l (λ k. main_at fs k)
  where
    at : (b : Bool) → (f.defined && is_main f) ≡ b → (if b then 0 else suc (number_of_main fs)) < suc (length fs) → (number_of_main fs < length fs → (h : Function) × (slice_get fs (number_of_main fs) ≡ Some h) × IsTrue h.defined × IsTrue (is_main h)) → (h : Function) × (slice_get (f ∷ fs) (if b then 0 else suc (number_of_main fs)) ≡ Some h) × IsTrue h.defined × IsTrue (is_main h)
    at true e l k = (let a = and_is f.defined (is_main f) e in (f, refl, a.0, a.1))
    at false e l k = (let r = k (omega arith) in (r.0, r.1, r.2, r.3))

-- `main` has no arguments, and gives an `int`
main_takes : (g : List Class) (f : Function) → IsTrue (is_main f) → (argument_types g f ≡ []) × (f.result ≡ ty.Int)
main_takes g f e =
    let a = and_is (bytes_eq f.name (codes "main")) (not f.member && (not (has_params f.params) && same_type f.result ty.Int)) e in
    let b = and_is (not f.member) (not (has_params f.params) && same_type f.result ty.Int) a.1 in
    let c = and_is (not (has_params f.params)) (same_type f.result ty.Int) b.1 in
    (rw (is_false f.member b.0) (none f.params (is_false (has_params f.params) c.0)), same_is f.result ty.Int c.1)
  where
    is_false : (b : Bool) → not b ≡ true → b ≡ false
    is_false true e = cc
    is_false false e = refl

    none : (qs : List CoreParam) → has_params qs ≡ false → types_of_params qs ≡ []
    none [] e = refl
    none (q ∷ qs) e = cc

int_fits : (g : List Class) (xs : List Object) (v : Value) → Fits g xs ty.Int v → IsTrue (is_int (int_value v))
int_fits g xs (Number z) f = f
int_fits g xs (Truth b) f = absurd f
int_fits g xs (Word n) f = absurd f
int_fits g xs Null f = absurd f
int_fits g xs (At o s) f = absurd f
int_fits g xs Nothing f = absurd f

ended_int : (g : List Class) (s : State) (x : Run Stop State Value) (z : ℤ) → On (Gave g ty.Int s) x → (outcome_of x).finish ≡ Ended z → IsTrue (is_int z)
ended_int g s (Gives v m k) z h e = (let i : int_value v ≡ z = cc in subst (λ y. IsTrue (is_int y)) i (int_fits g m.objects v h.fits))
ended_int g s (Stops (Trapped t) m) z h e = cc
ended_int g s (Stops Spent m) z h e = cc

started : (g : List Class) (input : List ℤ) → ((x : ℤ) → Has input x → IsTrue (is_int x)) → IsState g (starting input)
started g input h = record { fields = λ o f t l p. absurd (let z : ⊥ = omega arith in z); input = h }

runs_fit : (p : Program) → IsSound p → (input : List ℤ) (n : ℕ) (z : ℤ) → ((x : ℤ) → Has input x → IsTrue (is_int x)) → (source_run p input n).finish ≡ Ended z → IsTrue (is_int z)
runs_fit p ok input n z h e =
    let m = main_at p.functions ok.merged.main in
    let t = main_takes p.classes m.0 m.3 in
    let x = whole p ok.merged ok.named ok.resolved n (number_of_main p.functions) m.0 [] (starting input) n m.1 m.2 (started p.classes input h) (subst (λ ts. AllFit p.classes [] ts []) (sym t.0) tt) in
    ended_int p.classes (starting input) (call_of p n (number_of_main p.functions) [] (starting input) n) z (subst (λ r. On (Gave p.classes r (starting input)) (call_of p n (number_of_main p.functions) [] (starting input) n)) t.1 x) e

-- the law
pub programs_fit : ProgramsFit
programs_fit = record {
  calls = λ p ok n m f vs s k e d i args. whole p ok.merged ok.named ok.resolved n m f vs s k e d i args;
  runs = runs_fit;
}
