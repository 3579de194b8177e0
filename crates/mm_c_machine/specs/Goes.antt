-- The meaning of a machine, and of one move.
use Rattle.std.specs.Borrow.{Bor}
use Rattle.std.specs.Prelude.{◌≡◌, ◌≢◌, ◌⊎◌, ℕ, suc, ◌<◌, ◌≤◌, Bool, true, false, List, [], ◌∷◌, length, Option, Some, None}
use Rattle.mm_base.specs.World.{World}
use Rattle.mm_meaning.specs.Run.{Run, Gives, Stops, then, pure, within}
use Rattle.mm_meaning.specs.Same.{IsFront}
use Rattle.mm_c.specs.declared.value.CValue.{CValue}
use Rattle.mm_c.specs.declared.tree.CKind.{CKind}
use Rattle.mm_c.specs.Memory as c
use Rattle.mm_c.specs.CMeaning.{Stop, Trapped, Spent, Stuck, State, From, stuck, Flow}
use Rattle.mm_c_placed.specs.declared.tree.PlacedStmt.{PlacedStmt}
use Rattle.mm_c_placed.specs.View.{code_view}
use Rattle.mm_c_placed.specs.Tree.{Code, forever, Function, Program}
use Rattle.mm_c_placed.specs.Meaning.{Store, Around, Calls, around_of, plain_calls, all_calls, now, unless_left, next_turn, flow_of, flows_of, receive, callee_in, end_of}
use Rattle.mm_c_memory.specs.declared.memory.Memory.{Memory}
use Rattle.mm_c_memory.specs.Held.{Holds}
use Rattle.mm_c_machine.specs.State.{Level, Piece, rest, loop, ret, At, code, leaves, no_way, Core, with_at, with_local, entered, store_of}
use Rattle.mm_c_machine.specs.Frames.{fitted_all}
use Rattle.mm_c_placed.specs.declared.tree.Target.{Target}
use Rattle.mm_c_placed.specs.declared.tree.Callee.{Callee}
use Rattle.mm_c_machine.specs.Answers.{state}
use Rattle.mm_c_placed.specs.declared.tree.Local.{Local}
use Rattle.mm_c_machine.specs.Ready.{IsReadyCore, weight}
use Rattle.mm_c_machine.specs.declared.machine.Went.{Went}
use Rattle.mm_c_machine.specs.declared.machine.Went.TheVariants as went
use Rattle.mm_c_machine.specs.declared.machine.Ending.{Ending}
use Rattle.mm_c_machine.specs.declared.machine.Ending.TheVariants as ending

-- calls as deep as the clock allows, from an inline function and from any other
abbrev pub calls_in : Program → Bool → Calls
calls_in p true = plain_calls p (now p)
calls_in p false = all_calls p (now p)

abbrev pub around : Program → Bool → Around
around p i = around_of p (calls_in p i)

abbrev pub starts : Program → Level → At → From Store Flow
starts p l (code c) = flows_of (around p l.is_inline) c
starts p l (leaves f) = pure f
starts p l no_way = stuck

-- back in the frame of the function that called
abbrev pub back : {A : Type 0} → Level → Run Stop State A → Run Stop Store A
back l = within (store_of l)

-- What follows when the pieces are done after a run in a frame whose function has this result and
-- may be inline.
abbrev pub follows : Program → Option CKind → Bool → List Piece → Run Stop Store Flow → Run Stop State (Option CValue)
follows p r i [] q = end_of r q
follows p r i (rest c ∷ ps) q = follows p r i ps ((then) q (λ flow. unless_left flow (flows_of (around p i) c)))
follows p r i (loop b ∷ ps) q = follows p r i ps ((then) q (λ flow. next_turn flow (flow_of (around p i) (forever b))))
follows p r i (ret x l c ∷ ps) q = follows p l.result l.is_inline ps ((then) ((then) (back l (end_of r q)) (receive x)) (λ u. flows_of (around p l.is_inline) c))

abbrev pub means : Program → Core → State → ℕ → Run Stop State (Option CValue)
means p s st k = follows p s.level.result s.level.is_inline s.pieces (starts p s.level s.at (store_of s.level st) k)

-- a run that stopped so, with this world
abbrev pub HasStop : Stop → World → Run Stop State (Option CValue) → Type 0
HasStop t w r = (m : List c.Block) × (r ≡ Stops t (state m w))

-- a run ended so, with this world
abbrev pub HasEnd : Ending → World → Run Stop State (Option CValue) → Type 0
HasEnd (ending.Returned v) w r = (m : List c.Block) × ((k : ℕ) × (r ≡ Gives v (state m w) k))
HasEnd (ending.Trapped t) w r = HasStop (Trapped t) w r
HasEnd ending.Stuck w r = HasStop Stuck w r

-- what was put stays, and the input
pub record Grows (w w' : World) : Type 0 where
  pub input : w'.input ≡ w.input
  pub put : IsFront w.put w'.put

-- no step was taken, and less is left to do before one
pub record GoesFurther (p : Program) (s : Core) (m : List c.Block) (w : World) (s' : Core) (held : Memory) (w' : World) : Type 0 where
  pub to : List c.Block
  pub holds : Holds to held
  pub same : (k : ℕ) → means p s (state m w) k ≡ means p s' (state to w') k
  pub less : weight p s' < weight p s
  pub ready : IsReadyCore s'
  pub grows : Grows w w'

-- One move without a step, which the machine does beside its own record of what comes first: what
-- does, or nothing where the machine is as before.
abbrev pub Passes : Program → Option (Bor (List PlacedStmt)) → Core → List c.Block → World → Core → Core → Memory → Memory → Type 0
Passes p (Some next) s m w s0 s1 held0 held = GoesFurther p s m w (with_at s1 (code (code_view next.now))) held w
Passes p None s m w s0 s1 held0 held = (s1 ≡ s0) × (held ≡ held0)

-- moves without a step, none or more
pub record Walks (p : Program) (s : Core) (m : List c.Block) (w : World) (s' : Core) (held : Memory) : Type 0 where
  pub to : List c.Block
  pub holds : Holds to held
  pub same : (k : ℕ) → means p s (state m w) k ≡ means p s' (state to w) k
  pub less : weight p s' ≤ weight p s
  pub ready : IsReadyCore s'

-- one step was taken
pub record Steps (p : Program) (s : Core) (m : List c.Block) (w : World) (s' : Core) (held : Memory) (w' : World) : Type 0 where
  pub to : List c.Block
  pub holds : Holds to held
  pub same : (k : ℕ) → means p s (state m w) (suc k) ≡ means p s' (state to w') k
  pub spent : HasStop Spent w' (means p s (state m w) 0)
  pub ready : IsReadyCore s'
  pub grows : Grows w w'

-- there is nothing left to do
pub record Ends (p : Program) (e : Ending) (s : Core) (m : List c.Block) (w w' : World) : Type 0 where
  pub same : (k : ℕ) → HasEnd e w' (means p s (state m w) k)
  pub grows : Grows w w'

abbrev pub Goes : Program → Went → Core → List c.Block → World → Core → Memory → World → Type 0
Goes p went.On s m w s' held w' = GoesFurther p s m w s' held w'
Goes p went.Stepped s m w s' held w' = Steps p s m w s' held w'
Goes p (went.Over e) s m w s' held w' = Ends p e s m w w'

-- a step was taken, or the run ended
abbrev pub Reaches : Program → Option Ending → Core → List c.Block → World → Core → Memory → World → Type 0
Reaches p None s m w s' held w' = Steps p s m w s' held w'
Reaches p (Some e) s m w s' held w' = Ends p e s m w w'

-- whether a result is received, and the machine that goes on with the code behind the call
abbrev pub Received : Bool → Option Local → Option CValue → Core → Code → Core → Type 0
Received true None v s c s' = s' ≡ with_at s (code c)
Received true (Some x) None s c s' = ⊥
Received true (Some x) (Some v) s c s' = s' ≡ with_at (with_local s x v) (code c)
Received false None v s c s' = ⊥
Received false (Some x) None s c s' = Unit {0}
Received false (Some x) (Some v) s c s' = ⊥

-- the function that a call finds
abbrev pub IsCalled : Program → Core → State → Target → Callee → Type 0
IsCalled p s st t f = callee_in (around p s.level.is_inline) (store_of s.level st) t ≡ Some f

abbrev pub IsFound : Program → Core → State → Target → Option Callee → Type 0
IsFound p s st t f = callee_in (around p s.level.is_inline) (store_of s.level st) t ≡ f

-- the core of a machine behind the entry of a function, which is stuck where the arguments are too
-- few or too many
abbrev pub IsInto : Core → Option Local → Code → List CValue → Function → Core → Type 0
IsInto s x c vs f s' =
    ((length vs ≡ length f.params) × (s' ≡ entered s x c (fitted_all f.params vs) f.slots f.result f.is_inline f.body))
    ⊎ ((length vs ≢ length f.params) × (s' ≡ with_at s no_way))

-- what a call of a function of the program makes of a core: an inline one is entered without a
-- step, and not from another
abbrev pub Entered : Went → Core → Option Local → Code → List CValue → Function → Core → Type 0
Entered went.On s x c vs f s' = (f.is_inline ≡ true) × (s.level.is_inline ≡ false) × IsInto s x c vs f s'
Entered went.Stepped s x c vs f s' = (f.is_inline ≡ false) × IsInto s x c vs f s'
Entered (went.Over ending.Stuck) s x c vs f s' = (f.is_inline ≡ true) × (s.level.is_inline ≡ true)
Entered (went.Over (ending.Returned v)) s x c vs f s' = ⊥
Entered (went.Over (ending.Trapped t)) s x c vs f s' = ⊥
