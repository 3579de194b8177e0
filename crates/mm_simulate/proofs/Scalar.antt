-- Programs of scalar functions: what is called fits, and the theorem.
use Rattle.std.proofs.Common.{◌≡◌, ℕ, zero, suc, List, [], ◌∷◌, refl, sym, subst, ◌∙◌, ◌<◌, length}
use Rattle.std.specs.Prelude.{Bool, true, false, IsTrue, Option, Some, None, slice_get, nat_lt, if◌then◌else◌}
use Rattle.mm_meaning.specs.Run.{step, Stops}
use Rattle.mm_classes.specs.Lists.{Has, first, later}
use Rattle.mm_classes.specs.Classes.{Class, IsClassList}
use Rattle.mm_core.specs.Tree.{Stmt, block, Function, Program}
use Rattle.mm_core.specs.Heads.{is_open, is_reference, field_type, argument_types}
use Rattle.mm_core.specs.State.{Value, State, Spent}
use Rattle.mm_core.specs.Meaning.{call_of, enter_if, enter_body, setting_of}
use Rattle.mm_core.specs.ValidProgram.{around, IsValidFunction, BodyFits, numbers_below}
use Rattle.mm_core.specs.Fits.{AllFit, IsState}
use Rattle.mm_core.specs.Keeps.{On, Known, Gave, inside}
use Rattle.mm_core.proofs.SoundCalls.{function_fits}
use Rattle.mm_simulate.specs.Simulates.{IsScalar, Simulates, source_now, Named, KeepsAt, Keeps}
use Rattle.mm_core.specs.Virtual.{Calls}
use Rattle.mm_core.specs.Valid.{IsValidStmt}
use Rattle.mm_c.specs.Tree as tree
use Rattle.mm_c.specs.declared.tree.CKind.{CKind}
use Rattle.mm_agree.specs.Agree.{Layout}
use Rattle.mm_simulate.specs.Lowered.{lowered_fn}
use Rattle.mm_simulate.proofs.Below.{calls_below, keeps}
use Rattle.mm_simulate.proofs.Wellformed.{keeps_rules}
use Rattle.mm_simulate.proofs.Plain.{closed, trees}
use Rattle.mm_simulate.proofs.Programs.{translates}

list-Has : (fs : List Function) (i : ℕ) (f : Function) → slice_get fs i ≡ Some f → Has fs f
list-Has [] i f e = cc
list-Has (g ∷ fs) zero f e = first (let k : g ≡ f = cc in k)
list-Has (g ∷ fs) (suc i) f e = later (list-Has fs i f e)

module _ (p : Program) (scalar : IsScalar p) where
  abbrev callable : Function → Bool
  callable f = f.defined

  valid_at : (i : ℕ) (f : Function) → slice_get p.functions i ≡ Some f → IsValidFunction callable p f
  valid_at i f e = scalar.merged.valid.functions f (list-Has p.functions i f e)

  closed_at : (i : ℕ) (f : Function) → slice_get p.functions i ≡ Some f → is_open f ≡ false
  closed_at i f e = closed p scalar.classes valid_at i f e

  plain : (c f : ℕ) → is_reference (field_type p.classes c f) ≡ false
  plain c f = subst (λ g. is_reference (field_type g c f) ≡ false) (sym scalar.classes) refl

  FitsAt : ℕ → Type 0
  FitsAt n = (i : ℕ) (f : Function) (vs : List Value) (s : State) (k : ℕ) → slice_get p.functions i ≡ Some f → is_open f ≡ false → IsTrue (callable f) → IsState p.classes s → AllFit p.classes s.objects (argument_types p.classes f) vs → On (Gave p.classes f.result s) (call_of p n i vs s k)

  no_member : (g : List Class) (c n : ℕ) → g ≡ [] → slice_get (Rattle.mm_classes.specs.Classes.members_of g c) n ≡ None
  no_member g c n e = subst (λ g. slice_get (Rattle.mm_classes.specs.Classes.members_of g c) n ≡ None) (sym e) refl

  known_from_calls : (calls : Calls) → ((i : ℕ) (f : Function) (vs : List Value) (s : State) (k : ℕ) → slice_get p.functions i ≡ Some f → is_open f ≡ false → IsTrue (callable f) → IsState p.classes s → AllFit p.classes s.objects (argument_types p.classes f) vs → On (Gave p.classes f.result s) (calls i vs s k)) → (f : Function) → Known (inside p callable calls f)
  known_from_calls calls fits f = record {
    listed = scalar.merged.valid.listed;
    plain = plain;
    calls_fit = fits;
    opens_fit = λ i f vs s k e open' ok is h. absurd (let z : true ≡ false = sym open' ∙ closed_at i f e in let y : ⊥ = cc in y);
    virtuals_fit = λ c m x v vs s k is st f h. absurd (let z = no_member p.classes c m scalar.classes in let w = is.0 in let y : ⊥ = cc in y);
  }

  known_from : (n : ℕ) → FitsAt n → (f : Function) → Known (inside p callable (call_of p n) f)
  unfolding FitsAt
  known_from n fits f = known_from_calls (call_of p n) fits f

  body_fits : (n : ℕ) (f : Function) (d : Bool) (o : Option Stmt) (vs : List Value) (s : State) (k : ℕ) → FitsAt n → d ≡ true → BodyFits (around callable p f) f.result d o → AllFit p.classes s.objects (argument_types p.classes f) vs → IsState p.classes s → On (Gave p.classes f.result s) (enter_body (setting_of p (call_of p n)) f o vs s k)
  body_fits n f true (Some (block ss)) vs s k ih e v fits is = function_fits p callable (call_of p n) f (known_from n ih f) (block ss) vs s k v fits is
  body_fits n f true None vs s k ih e v fits is = absurd v
  body_fits n f true (Some st) vs s k ih e v fits is = absurd v
  body_fits n f false o vs s k ih e v fits is = cc

  fits_step : (n i : ℕ) (f : Function) (vs : List Value) (s : State) (k : ℕ) → FitsAt n → slice_get p.functions i ≡ Some f → IsTrue (callable f) → IsState p.classes s → AllFit p.classes s.objects (argument_types p.classes f) vs → On (Gave p.classes f.result s) (step Spent (enter_if (setting_of p (call_of p n)) (slice_get p.functions i) vs) s k)
  fits_step n i f vs s zero ih e ok is fits = tt
  fits_step n i f vs s (suc k) ih e ok is fits = rw e (body_fits n f f.defined f.body vs s k ih ok (valid_at i f e).body fits is)

  fits_at : (n : ℕ) → FitsAt n
  unfolding FitsAt
  fits_at zero i f vs s k e closed ok is fits = tt
  fits_at (suc n) i f vs s k e closed ok is fits = fits_step n i f vs s k (fits_at n) e ok is fits

  pub known_at : (n : ℕ) (f : Function) → Known (inside p callable (call_of p n) f)
  known_at n f = known_from n (fits_at n) f

  -- one function in any program that holds the others
  module _ (l : Layout) (name : ℕ → List ℕ) (q : tree.Program) (named : Named p callable name q) where
    known_below : (n : ℕ) (f : Function) → Known (inside p callable (calls_below p l callable name q named n) f)
    unfolding FitsAt
    known_below n f = known_from_calls (calls_below p l callable name q named n) (λ i h vs s k e off ok is fits. at i h vs s k (nat_lt k n) e off ok is fits) f
      where
        at : (i : ℕ) (h : Function) (vs : List Value) (s : State) (k : ℕ) (b : Bool) → slice_get p.functions i ≡ Some h → is_open h ≡ false → IsTrue (callable h) → IsState p.classes s → AllFit p.classes s.objects (argument_types p.classes h) vs → On (Gave p.classes h.result s) (if b then source_now p i vs s k else Stops Spent s)
        at i h vs s k true e off ok is fits = fits_at k i h vs s k e off ok is fits
        at i h vs s k false e off ok is fits = tt

    one_keeps : (i : ℕ) (f : Function) (b : Stmt) (public' : Bool) (temps : List (CKind × ℕ)) (n : ℕ) → slice_get p.functions i ≡ Some f → f.body ≡ Some b → ((k j : ℕ) (h : Function) → k < n → slice_get p.functions j ≡ Some h → IsTrue h.defined → KeepsAt p l q k j h (named.function j)) → KeepsAt p l q n i f (lowered_fn (around callable p f) l name i public' f b temps)
    one_keeps i f b public' temps n e h below =
        keeps p l callable name q named i f b e h (trees p scalar.classes valid_at i f b e h) (body_valid f.defined f.body h (valid_at i f e).body) public' temps n (known_below n f) (λ k j g low at off ok. below k j g low at ok)
      where
        body_valid : (d : Bool) (o : Option Stmt) → o ≡ Some b → BodyFits (around callable p f) f.result d o → IsValidStmt (around callable p f) f.result false (numbers_below (length (argument_types p.classes f))) b
        body_valid true (Some (block ss)) is v = let same : block ss ≡ b = cc in subst (λ s. IsValidStmt (around callable p f) f.result false (numbers_below (length (argument_types p.classes f))) s) same v
        body_valid true (Some s) is v = absurd v
        body_valid true None is v = absurd v
        body_valid false (Some s) is v = absurd v
        body_valid false None is v = cc

pub keeps_law : Keeps
keeps_law = record { by = λ p l name q named i f b public' temps n scalar e h below. one_keeps p scalar l name q named i f b public' temps n e h below }

-- the theorem
pub simulates : Simulates
simulates = record { translates = λ p l temps scalar. translates p l temps (known_at p scalar) (valid_at p scalar) (λ f e. e) (trees p scalar.classes (valid_at p scalar)) scalar.merged.main (closed_at p scalar) (λ f e. e); well_formed = λ p l temps scalar shallow theirs. keeps_rules p l temps scalar shallow theirs }
