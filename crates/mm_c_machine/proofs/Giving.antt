-- A call, by what its parts give.
use Rattle.std.proofs.Common.{◌≡◌, ℕ, zero, suc, ◌<◌, get_or, arith, Bool, true, false, List, [], ◌∷◌, length, map, Option, Some, None, Result, Ok, Err, sym, ap, ◌∙◌, subst, ⊎_elim, slice_get}
use Rattle.mm_base.specs.World.{World}
use Rattle.mm_c.specs.declared.value.CValue.{CValue}
use Rattle.mm_c.specs.Memory as c
use Rattle.mm_c.specs.CMeaning.{Trapped, Stuck}
use Rattle.mm_c_placed.specs.declared.tree.Operand.{Operand}
use Rattle.mm_c_placed.specs.declared.tree.Target.{Target}
use Rattle.mm_c_placed.specs.declared.tree.Local.{Local}
use Rattle.std.specs.Prelude.{IfOk}
use Rattle.std.specs.declared.alloc.AllocError.{AllocError}
use Rattle.mm_c_placed.specs.declared.tree.Callee.{Callee}
use Rattle.mm_c_placed.specs.declared.tree.Callee.TheVariants as callee_is
use Rattle.mm_c_placed.specs.Tree.{run, Code, do_then, Function, Program}
use Rattle.mm_c_placed.specs.Meaning.{operand_of, start}
use Rattle.std.specs.Option.{option_map}
use Rattle.std.proofs.lemmas.Option.{slice_get-map}
use Rattle.mm_c_placed.specs.declared.tree.PlacedProgram.{PlacedProgram}
use Rattle.mm_c_placed.specs.declared.tree.PlacedFunction.{PlacedFunction}
use Rattle.mm_c_placed.specs.View.{function_view, program_view}
use Rattle.mm_c_placed.specs.Ready.{IsIn, IsReady, IsReadyFunction}
use Rattle.mm_c_memory.specs.declared.memory.Memory.{Memory}
use Rattle.mm_c_memory.specs.Held.{Holds}
use Rattle.mm_c_machine.specs.Answers.{Answers, state, callee_of, given_of}
use Rattle.mm_c_machine.specs.declared.prelude.Prelude.{Prelude}
use Rattle.mm_c_machine.specs.declared.prelude.Refusal.TheVariants as refusal
use Rattle.mm_c_machine.specs.State.{Core, with_at, code}
use Rattle.mm_c_machine.specs.Ready.{IsReadyCore}
use Rattle.mm_c_machine.specs.Goes.{GoesFurther, Ends, Goes, Received, Entered, IsInto, IsCalled, around}
use Rattle.mm_c_machine.specs.Goes as goes
use Rattle.mm_c_machine.specs.declared.machine.Went.{Went}
use Rattle.mm_c_machine.specs.declared.machine.Went.TheVariants as went
use Rattle.mm_c_machine.specs.declared.machine.Ending.TheVariants as ending
use Rattle.mm_c_machine.proofs.Moves.{prelude_goes, prelude_stops, prelude_lost, as_before, call_steps, call_steps_stuck, inline_goes, inline_stuck_goes, inline_in_inline}
use Rattle.mm_c_machine.proofs.Growth.{given_grows}

module _ (p : Program) (s : Core) (m : List c.Block) (w : World) (x : Option Local) (t : Target) (as_ : List Operand) (more : Code) where
  abbrev called : Core
  called = with_at s (code (do_then (run x t as_) more))

  abbrev args : List CValue
  args = map (operand_of (start s.level.values)) as_

  pub gives_on : (q : Prelude) (v : Option CValue) (w' : World) (held held' : Memory) (s0 s' : Core) (b : Bool) → IsReadyCore called → IsCalled p s (state m w) t (callee_of q) → Answers (Ok v) q args m w held w' → s0 ≡ s → Received b x v s0 more s' → b ≡ true → held' ≡ held → GoesFurther p called m w s' held' w'
  gives_on q v w' held held' s0 s' b ready is a same got is_so kept =
      let got1 = subst (λ b. Received b x v s0 more s') is_so got in
      let got2 = subst (λ s. Received true x v s more s') same got1 in
      prelude_goes p s.level s.pieces m w x t as_ more q v a.0 w' held' s.at s' is ready (subst (Holds a.0) (sym kept) a.1.0)
      (given_grows (given_of q) args m a.0 w w' v 0 (a.1.1 0)) a.1.1 got2

  pub gives_lost : (q : Prelude) (v : Option CValue) (w' : World) (held : Memory) (s0 s' : Core) (b : Bool) → IsCalled p s (state m w) t (callee_of q) → Answers (Ok v) q args m w held w' → s0 ≡ s → Received b x v s0 more s' → b ≡ false → Ends p ending.Stuck called m w w'
  gives_lost q v w' held s0 s' b is a same got is_so =
      let got1 = subst (λ b. Received b x v s0 more s') is_so got in
      let got2 = subst (λ s. Received false x v s more s') same got1 in
      prelude_lost p s.level s.pieces m w x t as_ more q v a.0 w' s.at s' is (given_grows (given_of q) args m a.0 w w' v 0 (a.1.1 0)) a.1.1 got2

  pub gives_trap : (q : Prelude) (k : ℕ) (w' : World) (held : Memory) → IsCalled p s (state m w) t (callee_of q) → Answers (Err (refusal.Trapped k)) q args m w held w' → Ends p (ending.Trapped k) called m w w'
  gives_trap q k w' held is a = subst (λ u. Ends p (ending.Trapped k) called m w u) (sym a.0) (record { same = prelude_stops p s.level s.pieces m w x t as_ more q (Trapped k) is a.1; grows = as_before w })

  pub gives_stuck : (q : Prelude) (w' : World) (held : Memory) → IsCalled p s (state m w) t (callee_of q) → Answers (Err refusal.Stuck) q args m w held w' → Ends p ending.Stuck called m w w'
  gives_stuck q w' held is a = subst (λ u. Ends p ending.Stuck called m w u) (sym a.0) (record { same = prelude_stops p s.level s.pieces m w x t as_ more q Stuck is a.1; grows = as_before w })

  -- a function of the program
  pub enters : (went : Went) (f : ℕ) (g : Function) (s' : Core) (held held' : Memory) → Holds m held → held' ≡ held → IsReadyCore called → IsCalled p s (state m w) t (callee_is.Function f) → slice_get p.functions f ≡ Some g → IsIn g.slots g.body → Entered went s x more args g s' → Goes p went called m w s' held' w
  enters went.On f g s' held held' holds kept ready is there fits h =
      let holds1 = subst (Holds m) (sym kept) holds in
      ⊎_elim
      (λ a. subst (λ q. GoesFurther p called m w q held' w) (sym a.1) (inline_goes p s.level s.pieces m w x t as_ more f g held' is there h.0 h.1 ready fits a.0 holds1))
      (λ a. subst (λ q. GoesFurther p called m w q held' w) (sym a.1) (inline_stuck_goes p s.level s.pieces m w x t as_ more f g held' is there h.0 h.1 ready a.0 holds1))
      h.2
  enters went.Stepped f g s' held held' holds kept ready is there fits h =
      let holds1 = subst (Holds m) (sym kept) holds in
      ⊎_elim
      (λ a. subst (λ q. goes.Steps p called m w q held' w) (sym a.1) (call_steps p s.level s.pieces m w x t as_ more f g held' is there h.0 ready fits a.0 holds1))
      (λ a. subst (λ q. goes.Steps p called m w q held' w) (sym a.1) (call_steps_stuck p s.level s.pieces m w x t as_ more f g held' is there h.0 ready a.0 holds1))
      h.1
  enters (went.Over ending.Stuck) f g s' held held' holds kept ready is there fits h = inline_in_inline p s.level s.pieces m w x t as_ more f g is there h.0 h.1
  enters (went.Over (ending.Returned v)) f g s' held held' holds kept ready is there fits h = absurd h
  enters (went.Over (ending.Trapped k)) f g s' held held' holds kept ready is there fits h = absurd h

-- ---- functions, as they stand in memory

got : {A : Type 0} (xs : List A) (i : ℕ) (x : A) → slice_get xs i ≡ Some x → (i < length xs) × (get_or xs i x ≡ x)
got [] i x e = cc
got (y ∷ xs) zero x e = let is : y ≡ x = cc in (omega arith, is)
got (y ∷ xs) (suc i) x e = let h = got xs i x e in (let lt = h.0 in omega (arith, lt), h.1)

pub function_there : (q : PlacedProgram) (n : ℕ) (g : PlacedFunction) → slice_get q.functions n ≡ Some g → slice_get (program_view q).functions n ≡ Some (function_view g)
function_there q n g e = slice_get-map function_view q.functions n ∙ ap (option_map function_view) e

pub function_none : (q : PlacedProgram) (n : ℕ) → slice_get q.functions n ≡ None → slice_get (program_view q).functions n ≡ None
function_none q n e = slice_get-map function_view q.functions n ∙ ap (option_map function_view) e

pub function_fits : (p : Program) (n : ℕ) (g : Function) → IsReady p → slice_get p.functions n ≡ Some g → IsIn g.slots g.body
function_fits p n g h e = let k = got p.functions n g e in subst IsReadyFunction k.1 (h.functions n g k.0)

-- a function of the program, where memory was there for it
pub enters_if : (p : Program) (s : Core) (w : World) (x : Option Local) (as_ : List Operand) (more : Code) (result : Result Went AllocError) (f : Callee) (n : ℕ) (g : Function) (s' : Core) (held held' : Memory) → held' ≡ held → f ≡ callee_is.Function n → slice_get p.functions n ≡ Some g → IsReady p → IfOk result (λ went. Entered went s x more (map (operand_of (start s.level.values)) as_) g s') →
    IfOk result (λ went. (t : Target) (m : List c.Block) → Holds m held → IsReadyCore (with_at s (code (do_then (run x t as_) more))) → IsCalled p s (state m w) t f → Goes p went (with_at s (code (do_then (run x t as_) more))) m w s' held' w)
enters_if p s w x as_ more (Ok went) f n g s' held held' kept e there ready h = λ t m holds fits is. enters p s m w x t as_ more went n g s' held held' holds kept fits (is ∙ ap Some e) there (function_fits p n g ready there) h
enters_if p s w x as_ more (Err z) f n g s' held held' kept e there ready h = tt
