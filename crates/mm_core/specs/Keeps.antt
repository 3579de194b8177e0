-- What valid functions give fits their types, where what they call gives what fits. (ISO/IEC 14882,
-- 3.9.1, 3.9.2 and 5; own.)
use Rattle.std.specs.Prelude.{◌≡◌, ℕ, ℤ, Bool, true, false, IsTrue, List, length, Some, slice_get}
use Rattle.mm_base.specs.Num.{is_int}
use Rattle.mm_meaning.specs.Run.{Run, Gives, Stops}
use Rattle.mm_classes.specs.declared.class.Ty.{Ty}
use Rattle.mm_classes.specs.declared.class.Ty.TheVariants as ty
use Rattle.mm_classes.specs.declared.class.Member.{Member}
use Rattle.mm_classes.specs.Lists.{Has}
use Rattle.mm_classes.specs.Classes.{Class, IsClassList}
use Rattle.mm_core.specs.Tree.{Stmt, Function, Program}
use Rattle.mm_core.specs.Heads.{is_reference, field_type, params_in, result_in, argument_types, local_types, is_open}
use Rattle.mm_core.specs.State.{Value, State, Stop}
use Rattle.mm_core.specs.Virtual.{Calls, call_virtual}
use Rattle.mm_core.specs.Open.{call_open}
use Rattle.mm_core.specs.Meaning.{enter, setting_of, call_of}
use Rattle.mm_core.specs.Run.{Ended, source_run}
use Rattle.mm_core.specs.Valid.{IsVirtualMethod}
use Rattle.mm_core.specs.ValidProgram.{around, IsBody, IsMerged, IsResolved}
use Rattle.mm_core.specs.Units.{AreNamed}
use Rattle.mm_core.specs.Fits.{Fits, AllFit, Grew, IsState}

-- what a run gives has the property
abbrev pub On : {S A : Type 0} → (A → S → Type 0) → Run Stop S A → Type 0
On P (Gives v s k) = P v s
On P (Stops x s) = Unit {0}

-- a value of the type, in a state that goes on from the one before
pub record Gave (g : List Class) (t : Ty) (before : State) (v : Value) (after : State) : Type 0
  where
    pub fits : Fits g after.objects t v
    pub grew : Grew before.objects after.objects
    pub state : IsState g after

-- What a body stands in: the program, the functions that may be called, the types of the locals and
-- how many of them are arguments, and what calls do.
pub record Frame : Type 0 where
  pub program : Program
  pub callable : Function → Bool
  pub types : List Ty
  pub arguments : ℕ
  pub calls : Calls

-- the frame of a function's body
abbrev pub inside : Program → (Function → Bool) → Calls → Function → Frame
inside p callable calls f = record {
  program = p;
  callable = callable;
  types = local_types p.classes f;
  arguments = length (argument_types p.classes f);
  calls = calls;
}

-- What is known of classes and calls: no field is a reference, and each call on arguments that fit
-- gives what fits.
pub record Known (frame : Frame) : Type 0 where
  pub listed : IsClassList frame.program.classes
  pub plain : (c f : ℕ) → is_reference (field_type frame.program.classes c f) ≡ false
  pub calls_fit : (n : ℕ) (f : Function) (vs : List Value) (s : State) (k : ℕ) →
      slice_get frame.program.functions n ≡ Some f → is_open f ≡ false →
      IsTrue (frame.callable f) → IsState frame.program.classes s →
      AllFit frame.program.classes s.objects (argument_types frame.program.classes f) vs →
      On (Gave frame.program.classes f.result s) (frame.calls n vs s k)
  pub opens_fit : (n : ℕ) (f : Function) (vs : List Value) (s : State) (k : ℕ) →
      slice_get frame.program.functions n ≡ Some f → is_open f ≡ true → IsTrue (frame.callable f) →
      IsState frame.program.classes s →
      AllFit frame.program.classes s.objects (argument_types frame.program.classes f) vs →
      On (Gave frame.program.classes f.result s) (call_open frame.program frame.calls n vs s k)
  pub virtuals_fit : (c n : ℕ) (x : Member) (v : Value) (vs : List Value) (s : State) (k : ℕ) →
      IsVirtualMethod frame.program.classes c n x → IsState frame.program.classes s →
      Fits frame.program.classes s.objects (ty.Ref c) v →
      AllFit frame.program.classes s.objects (params_in x.kind) vs →
      On (Gave frame.program.classes (result_in x.kind) s)
      (call_virtual frame.program frame.calls n v vs s k)

-- A valid function that is entered on arguments of its types gives a value of its result's type.
pub record ValuesFit : Type 0 where
  pub by : (p : Program) (callable : Function → Bool) (calls : Calls) (f : Function) (body : Stmt)
      (vs : List Value) (s : State) (k : ℕ) → Known (inside p callable calls f) →
      IsBody (around callable p f) f.result body →
      AllFit p.classes s.objects (argument_types p.classes f) vs → IsState p.classes s →
      On (Gave p.classes f.result s) (enter (setting_of p calls) f body vs s k)

-- A merged program whose names are as they should be, and whose open-methods have no fault.
pub record IsSound (p : Program) : Type 0 where
  pub merged : IsMerged p
  pub named : AreNamed p
  pub resolved : IsResolved p

-- There each call of a defined function on arguments of its types gives a value of its result's
-- type, at every depth; and a run on `int`s that ends does so with an `int`.
pub record ProgramsFit : Type 0 where
  pub calls : (p : Program) → IsSound p →
      (n m : ℕ) (f : Function) (vs : List Value) (s : State) (k : ℕ) →
      slice_get p.functions m ≡ Some f → IsTrue f.defined → IsState p.classes s →
      AllFit p.classes s.objects (argument_types p.classes f) vs →
      On (Gave p.classes f.result s) (call_of p n m vs s k)
  pub runs : (p : Program) → IsSound p → (input : List ℤ) (n : ℕ) (z : ℤ) →
      ((x : ℤ) → Has input x → IsTrue (is_int x)) → (source_run p input n).finish ≡ Ended z →
      IsTrue (is_int z)
