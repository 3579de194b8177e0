-- What is proved of lowered programs. (Own.)
use Rattle.std.specs.Prelude.{◌≡◌, ℕ, Bool, false, IsTrue, List, [], Some, slice_get, ◌≤◌, true, ◌<◌}
use Rattle.mm_core.specs.Tree.{Stmt, Function, Program}
use Rattle.mm_core.specs.Heads.{is_open, argument_types}
use Rattle.mm_core.specs.State.{Value, State}
use Rattle.mm_core.specs.Virtual.{Calls}
use Rattle.mm_core.specs.Meaning.{call_of}
use Rattle.mm_core.specs.ValidProgram.{around, IsMerged}
use Rattle.mm_core.specs.Fits.{AllFit, IsState}
use Rattle.mm_c.specs.declared.tree.CKind.{CKind}
use Rattle.mm_c.specs.WellFormed.{is_inline, well_formed}
use Rattle.mm_c.specs.Tree as tree
use Rattle.mm_c.specs.CMeaning as c
use Rattle.mm_agree.specs.Agree.{Layout, all_in_c, States, Alike}
use Rattle.mm_agree.specs.Translates.{Translates}
use Rattle.mm_simulate.specs.Lowered.{is_defined, name_of, nesting_stmt, lowered_stmt, lowered_program, lowered_fn}
use Rattle.mm_simulate.specs.Temporaries.{AreTemporaries}

-- A merged program without classes: its types are `void`, `bool`, `int` and `unsigned`.
pub record IsScalar (p : Program) : Type 0 where
  pub merged : IsMerged p
  pub classes : p.classes ≡ []

-- In the code of each body blocks stand in one another no deeper than C allows, which is 4,096,
-- with a function's own and three for an operator. (A statement stands in at most 200 others, and
-- an expression has at most 1,000 tokens.)
abbrev pub IsShallow : Program → Type 0
IsShallow p = (i : ℕ) (f : Function) (b : Stmt) → slice_get p.functions i ≡ Some f →
    f.body ≡ Some b → nesting_stmt b ≤ 4092

-- Each function declares the temporaries that its code needs.
abbrev pub DeclareTheirs : Program → Layout → (ℕ → List (CKind × ℕ)) → Type 0
DeclareTheirs p l temps = (i : ℕ) (f : Function) (b : Stmt) → slice_get p.functions i ≡ Some f →
    f.body ≡ Some b → AreTemporaries (lowered_stmt (around is_defined p f) l (name_of p) 0 b)
    (temps i)

-- Its program translates it, whatever temporaries are declared and wherever objects would stand;
-- and it breaks no rule of C.
pub record Simulates : Type 0 where
  pub translates : (p : Program) (l : Layout) (temps : ℕ → List (CKind × ℕ)) → IsScalar p →
      Translates p (lowered_program p l temps)
  pub well_formed : (p : Program) (l : Layout) (temps : ℕ → List (CKind × ℕ)) → IsScalar p →
      IsShallow p → DeclareTheirs p l temps → well_formed (lowered_program p l temps) ≡ true

-- ---- one function, in any program that holds it

-- calls as deep as the clock allows
abbrev pub source_now : Program → Calls
source_now p f vs s k = call_of p k f vs s k

-- In a C program every callable function of the source has a name, which is that of a function that
-- isn't inline.
pub record Named (p : Program) (callable : Function → Bool) (name : ℕ → List ℕ)
    (q : tree.Program) : Type 0 where
  pub function : ℕ → tree.Function
  pub called : (i : ℕ) (f : Function) → slice_get p.functions i ≡ Some f → is_open f ≡ false →
      IsTrue (callable f) → c.callee_of q (name i) ≡ Some (c.defined (function i))
  pub plain : (i : ℕ) → is_inline (function i).linkage ≡ false

-- The function i keeps the correspondence at the clock n.
pub record KeepsAt (p : Program) (l : Layout) (q : tree.Program) (n i : ℕ) (f : Function)
    (F : tree.Function) : Type 0 where
  pub by : (vs : List Value) (s : State) (u : c.State) →
      AllFit p.classes s.objects (argument_types p.classes f) vs → IsState p.classes s →
      States p.classes l s u → Alike p.classes l f.result (source_now p i vs s n)
      (c.now q F (all_in_c l s.objects vs) u n)

-- In any C program where the functions of the source have names, the code of a defined function
-- keeps the correspondence at a clock, if all functions do at every clock below it.
pub record Keeps : Type 0 where
  pub by : (p : Program) (l : Layout) (name : ℕ → List ℕ) (q : tree.Program)
      (named : Named p is_defined name q) (i : ℕ) (f : Function) (b : Stmt) (public : Bool)
      (temps : List (CKind × ℕ)) (n : ℕ) →
      IsScalar p → slice_get p.functions i ≡ Some f → f.body ≡ Some b →
      ((k j : ℕ) (h : Function) → k < n → slice_get p.functions j ≡ Some h → IsTrue h.defined →
      KeepsAt p l q k j h (named.function j)) →
      KeepsAt p l q n i f (lowered_fn (around is_defined p f) l name i public f b temps)
