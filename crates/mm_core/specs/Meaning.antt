-- What a checked program does: from a state and a clock, a result, the state after it and the clock
-- left, or a stop. (ISO/IEC 14882, 1.9, 5, 6 and 3.6.1; the traps, the order of evaluation and the
-- clock are own.)
use Rattle.std.specs.Prelude.{ℕ, zero, suc, ℤ, pos, true, false, not, List, [], ◌∷◌, Option, Some, None, Result, Ok, Err, if◌then◌else◌, slice_get}
use Rattle.mm_base.specs.declared.num.Trap.{Trap}
use Rattle.mm_base.specs.declared.num.Trap.TheVariants as by
use Rattle.mm_base.specs.declared.world.Builtin.{Builtin}
use Rattle.mm_base.specs.World.{World, call_builtin}
use Rattle.mm_meaning.specs.Run.{Run, Gives, Stops, ◌>>=◌, pure, stop, step, clocked}
use Rattle.mm_classes.specs.declared.class.Ty.{Ty}
use Rattle.mm_classes.specs.declared.class.Ty.TheVariants as ty
use Rattle.mm_classes.specs.Classes.{Class}
use Rattle.mm_core.specs.Tree.{Expr, int, unsigned, bool, null, local, set_local, field, set_field, not_null, move, convert, binary, negation, both, either, choose, call, virtual_call, open_call, builtin, new, step_local, step_field, compound, Exprs, no_exprs, expr_and, Stmt, block, run, if_else, while_do, do_while, for_do, break, continue, return_nothing, return, make, Stmts, no_stmts, stmt_and, Function, Program}
use Rattle.mm_core.specs.Heads.{same_type, local_types, is_main}
use Rattle.mm_core.specs.State.{Value, Truth, Number, Word, Null, Nothing, State, with_local, start, Store, Stop, Spent, From, trap, or_trap, Operation, at_once, outside}
use Rattle.mm_core.specs.Scalar.{is_true, int_value, converted, operate, changed, compounded}
use Rattle.mm_core.specs.Objects.{make_object, make_variable, get_field, put_field}
use Rattle.mm_core.specs.Moves.{move_to, tested_pointer}
use Rattle.mm_core.specs.Virtual.{Calls, call_virtual}
use Rattle.mm_core.specs.Open.{call_open}

-- ---- built-in functions

abbrev pub ints_of : List Value → List ℤ
ints_of [] = []
ints_of (v ∷ vs) = int_value v ∷ ints_of vs

abbrev pub value_or_nothing : Option ℤ → Value
value_or_nothing None = Nothing
value_or_nothing (Some z) = Number z

abbrev pub answered : State → Result (Option ℤ × World) Trap → Result (Value × State) Trap
answered s (Ok r) = Ok (value_or_nothing r.0, record { objects = s.objects; world = r.1 })
answered s (Err t) = Err t

-- what the world answers
abbrev pub ask : Builtin → List Value → Operation
ask b vs s = answered s (call_builtin b (ints_of vs) s.world)

-- ---- expressions

-- What a function body stands in: the classes, and what its calls do.
pub record Setting : Type 0 where
  pub classes : List Class
  pub calls : Calls
  -- a method, an object and the arguments
  pub virtual_calls : ℕ → Value → List Value → From State Value
  pub open_calls : Calls

abbrev pub get_local : ℕ → From Store Value
get_local x s k = Gives (s.locals x) s k

abbrev pub put_local : ℕ → Value → From Store Value
put_local x v s k = Gives v (record { locals = with_local s.locals x v; state = s.state }) k

-- an operation on the state, beside the locals
abbrev pub does : Operation → From Store Value
does op = outside (at_once op)

module _ (w : Setting) where
  abbrev mutual
    pub value_of : Expr → From Store Value
    value_of (int z) = pure (Number z)
    value_of (unsigned n) = pure (Word n)
    value_of (bool b) = pure (Truth b)
    value_of (null c) = pure Null
    value_of (local x) = get_local x
    value_of (set_local x e) = do
      v ← value_of e
      put_local x v
    value_of (field f e) = do
      p ← value_of e
      does (get_field f p)
    value_of (set_field f e d) = do
      p ← value_of e
      v ← value_of d
      does (put_field f p v)
    value_of (not_null e) = do
      p ← value_of e
      or_trap (tested_pointer p)
    value_of (move c n e) = do
      p ← value_of e
      does (move_to w.classes c n p)
    value_of (convert t e) = do
      v ← value_of e
      pure (converted t v)
    value_of (binary op a b) = do
      x ← value_of a
      y ← value_of b
      or_trap (operate op x y)
    value_of (negation e) = do
      v ← value_of e
      pure (Truth (not (is_true v)))
    value_of (both a b) = do
      x ← value_of a
      if is_true x then value_of b else pure (Truth false)
    value_of (either a b) = do
      x ← value_of a
      if is_true x then pure (Truth true) else value_of b
    value_of (choose c a b) = do
      x ← value_of c
      if is_true x then value_of a else value_of b
    value_of (call f es) = do
      vs ← values_of es
      outside (w.calls f vs)
    value_of (virtual_call m e es) = do
      p ← value_of e
      vs ← values_of es
      outside (w.virtual_calls m p vs)
    value_of (open_call f es) = do
      vs ← values_of es
      outside (w.open_calls f vs)
    value_of (builtin b es) = do
      vs ← values_of es
      does (ask b vs)
    value_of (new c) = does (make_object w.classes c)
    value_of (step_local x c) = do
      old ← get_local x
      v ← or_trap (changed c old)
      _ ← put_local x v
      pure old
    value_of (step_field f c e) = do
      p ← value_of e
      old ← does (get_field f p)
      v ← or_trap (changed c old)
      _ ← does (put_field f p v)
      pure old
    value_of (compound op f e d) = do
      p ← value_of e
      old ← does (get_field f p)
      y ← value_of d
      v ← or_trap (compounded op old y)
      does (put_field f p v)

    -- the values of expressions, from left to right
    pub values_of : Exprs → From Store (List Value)
    values_of no_exprs = pure []
    values_of (expr_and e es) = do
      v ← value_of e
      vs ← values_of es
      pure (v ∷ vs)

-- ---- statements

-- how a statement goes on: to the next one, out of a loop or of its turn, or out of its function
pub data Flow : Type 0 where
  Next : Flow
  Broke : Flow
  Continued : Flow
  Returned : Value → Flow

abbrev pub unless_left : Flow → From Store Flow → From Store Flow
unless_left Next rest = rest
unless_left Broke rest = pure Broke
unless_left Continued rest = pure Continued
unless_left (Returned v) rest = pure (Returned v)

-- what the end of a turn means for the loop
abbrev pub next_turn : Flow → From Store Flow → From Store Flow
next_turn Next again = again
next_turn Continued again = again
next_turn Broke again = pure Next
next_turn (Returned v) again = pure (Returned v)

-- What stands before the body in a turn (the step of a `for`, the test of a `do`) goes on to it; a
-- `continue` there ends the turn, and the next one begins without what stands before.
abbrev pub begun : Flow → From Store Flow → From Store Flow → From Store Flow
begun Next rest again = rest
begun Continued rest again = again
begun Broke rest again = pure Next
begun (Returned v) rest again = pure (Returned v)

-- A loop of at most n turns, each of which is a step: what the turn that is due begins with, what
-- the later ones begin with, and the body. No run has more turns than steps.
abbrev pub turns_from : ℕ → From Store Flow → From Store Flow → From Store Flow → From Store Flow
turns_from zero now before body = stop Spent
turns_from (suc n) now before body = step Spent (do
  start ← now
  begun start (do
    flow ← body
    next_turn flow (turns_from n before before body)) (turns_from n (pure Next) before body))

-- in its first turn a loop begins with its body
abbrev pub loop : From Store Flow → From Store Flow → From Store Flow
loop before body = clocked (λ k. turns_from k (pure Next) before body)

-- a turn whose test fails leaves the loop
abbrev pub tested : From Store Value → From Store Flow → From Store Flow
tested test body = do
  v ← test
  if is_true v then body else pure Broke

abbrev pub then_flow : From Store Flow → From Store Flow → From Store Flow
then_flow first rest = do
  flow ← first
  unless_left flow rest

-- `types` are those of the function's locals
module _ (w : Setting) (types : List Ty) where
  abbrev mutual
    pub flow_of : Stmt → From Store Flow
    flow_of (block ss) = flows_of ss
    flow_of (run e) = do
      v ← value_of w e
      pure Next
    flow_of (if_else e a b) = do
      v ← value_of w e
      if is_true v then flows_of a else flows_of b
    flow_of (while_do e body) = loop (pure Next) (tested (value_of w e) (flows_of body))
    flow_of (do_while body e) = loop (tested (value_of w e) (pure Next)) (flows_of body)
    flow_of (for_do e after body) = loop (flow_of after) (tested (value_of w e) (flows_of body))
    flow_of break = pure Broke
    flow_of continue = pure Continued
    flow_of return_nothing = pure (Returned Nothing)
    flow_of (return e) = do
      v ← value_of w e
      pure (Returned v)
    flow_of (make x) = do
      p ← does (make_variable w.classes (slice_get types x))
      _ ← put_local x p
      pure Next

    -- statements, one after another
    pub flows_of : Stmts → From Store Flow
    flows_of no_stmts = pure Next
    flows_of (stmt_and s ss) = then_flow (flow_of s) (flows_of ss)

-- ---- functions

-- what a function gives whose body came to its end
abbrev pub at_end : Function → From State Value
at_end f =
    if same_type f.result ty.Void then pure Nothing
    else (if is_main f then pure (Number (pos 0)) else trap by.NoResult)

abbrev pub result_of : Function → Run Stop Store Flow → Run Stop State Value
result_of f (Gives (Returned v) s k) = Gives v s.state k
result_of f (Gives Next s k) = at_end f s.state k
result_of f (Gives Broke s k) = at_end f s.state k
result_of f (Gives Continued s k) = at_end f s.state k
result_of f (Stops t s) = Stops t s.state

-- a body runs on its own locals
abbrev pub enter : Setting → Function → Stmt → List Value → From State Value
enter w f body vs s k =
    result_of f (flow_of w (local_types w.classes f) body
    (record { locals = start vs f.locals; state = s }) k)

-- A checked program calls only functions that are there and defined.
abbrev pub enter_body : Setting → Function → Option Stmt → List Value → From State Value
enter_body w f None vs = trap by.NoResult
enter_body w f (Some body) vs = enter w f body vs

abbrev pub enter_if : Setting → Option Function → List Value → From State Value
enter_if w None vs = trap by.NoResult
enter_if w (Some f) vs = enter_body w f f.body vs

-- ---- programs

abbrev pub setting_of : Program → Calls → Setting
setting_of p calls = record {
  classes = p.classes;
  calls = calls;
  virtual_calls = call_virtual p calls;
  open_calls = call_open p calls;
}

-- Calls of at most n functions inside one another. The entry of a function is a step.
abbrev pub call_of : Program → ℕ → Calls
call_of p zero f vs = stop Spent
call_of p (suc n) f vs =
    step Spent (enter_if (setting_of p (call_of p n)) (slice_get p.functions f) vs)
