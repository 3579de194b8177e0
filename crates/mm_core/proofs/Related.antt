-- What holds of what nodes are made of holds of all nodes: relations between the runs of a program and of one with other
-- numbers for classes and functions.
use Rattle.std.proofs.Common.{◌≡◌, ℕ, List, [], ◌∷◌}
use Rattle.std.specs.Prelude.{ℤ, Bool, true, false, not, if◌then◌else◌, Result, Ok, Err, slice_get}
use Rattle.mm_base.specs.declared.num.Trap.{Trap}
use Rattle.mm_base.specs.declared.world.Builtin.{Builtin}
use Rattle.mm_meaning.specs.Run.{◌>>=◌, pure}
use Rattle.mm_classes.specs.declared.class.Ty.{Ty}
use Rattle.mm_core.specs.declared.part.Operator.{Operator}
use Rattle.mm_core.specs.declared.part.Target.{Target}
use Rattle.mm_core.specs.declared.part.Change.{Change}
use Rattle.mm_core.specs.Tree.{Expr, int, unsigned, bool, null, local, set_local, field, set_field, not_null, move, convert, binary, negation, both, either, choose, call, virtual_call, open_call, builtin, new, step_local, step_field, compound, Exprs, no_exprs, expr_and, Stmt, block, run, if_else, while_do, do_while, for_do, break, continue, return_nothing, return, make, Stmts, no_stmts, stmt_and}
use Rattle.mm_core.specs.State.{Value, Truth, Number, Word, Null, Nothing, State, Store, From, trap, or_trap, at_once, outside}
use Rattle.mm_core.specs.Scalar.{is_true, converted, operate, changed, compounded}
use Rattle.mm_core.specs.Objects.{make_object, make_variable, get_field, put_field}
use Rattle.mm_core.specs.Moves.{move_to, tested_pointer}
use Rattle.mm_core.specs.Meaning.{Setting, get_local, put_local, ask, value_of, values_of, Flow, Next, Broke, Continued, Returned, unless_left, loop, tested, then_flow, flow_of, flows_of}
use Rattle.mm_core.specs.Renaming.{renamed, all_renamed, renamed_stmt, renamed_stmts}

-- What an expression, a list of them and a statement give.
pub data Kind : Type 0 where
  one : Kind
  many : Kind
  flow : Kind

abbrev pub Given : Kind → Type 0
Given one = Value
Given many = List Value
Given flow = Flow

-- values one by one
pub data All2 (V : Value → Value → Type 0) : List Value → List Value → Type 0 where
  none : All2 V [] []
  one_and : {v v' : Value} {vs vs' : List Value} → V v v' → All2 V vs vs' → All2 V (v ∷ vs) (v' ∷ vs')

pub data Flows (V : Value → Value → Type 0) : Flow → Flow → Type 0 where
  next : Flows V Next Next
  broke : Flows V Broke Broke
  continued : Flows V Continued Continued
  returned : {v v' : Value} → V v v' → Flows V (Returned v) (Returned v')

abbrev pub Rel : (Value → Value → Type 0) → (k : Kind) → Given k → Given k → Type 0
Rel V one = V
Rel V many = All2 V
Rel V flow = Flows V

-- both give values that are related, or one trap
pub data Both (V : Value → Value → Type 0) : Result Value Trap → Result Value Trap → Type 0 where
  given : {v v' : Value} → V v v' → Both V (Ok v) (Ok v')
  stopped : (t : Trap) → Both V (Err t) (Err t)

-- V relates values, R runs with locals by what they give, and Q runs in the state alone; r and f renumber classes and
-- functions, and w and w' are what the two bodies stand in.
pub record Relates (r f : ℕ → ℕ) (V : Value → Value → Type 0) (w w' : Setting)
    (R : (k : Kind) → From Store (Given k) → From Store (Given k) → Type 0)
    (Q : From State Value → From State Value → Type 0) : Type 1 where
  -- runs
  pub on_pure : (k : Kind) (a b : Given k) → Rel V k a b → R k (pure a) (pure b)
  pub on_then : (j k : Kind) (m n : From Store (Given j)) (g h : Given j → From Store (Given k)) → R j m n → ((a b : Given j) → Rel V j a b → R k (g a) (h b)) → R k (m >>= g) (n >>= h)
  pub on_trap : (k : Kind) (t : Trap) → R k (trap t) (trap t)
  pub on_get : (x : ℕ) → R one (get_local x) (get_local x)
  pub on_put : (x : ℕ) (v v' : Value) → V v v' → R one (put_local x v) (put_local x v')
  pub on_outside : (m n : From State Value) → Q m n → R one (outside m) (outside n)
  pub on_loop : (before before' body body' : From Store Flow) → R flow before before' → R flow body body' → R flow (loop before body) (loop before' body')
  -- values
  pub truth : (b : Bool) → V (Truth b) (Truth b)
  pub number : (z : ℤ) → V (Number z) (Number z)
  pub word : (n : ℕ) → V (Word n) (Word n)
  pub nulls : V Null Null
  pub nothing : V Nothing Nothing
  pub is_same : (v v' : Value) → V v v' → is_true v ≡ is_true v'
  pub convert_same : (t : Target) (v v' : Value) → V v v' → V (converted t v) (converted t v')
  pub test_same : (v v' : Value) → V v v' → Both V (tested_pointer v) (tested_pointer v')
  pub operate_same : (op : Operator) (x x' y y' : Value) → V x x' → V y y' → Both V (operate op x y) (operate op x' y')
  pub change_same : (c : Change) (v v' : Value) → V v v' → Both V (changed c v) (changed c v')
  pub compound_same : (op : Operator) (x x' y y' : Value) → V x x' → V y y' → Both V (compounded op x y) (compounded op x' y')
  -- operations on the state
  pub on_field : (k : ℕ) (p p' : Value) → V p p' → Q (at_once (get_field k p)) (at_once (get_field k p'))
  pub on_set : (k : ℕ) (p p' v v' : Value) → V p p' → V v v' → Q (at_once (put_field k p v)) (at_once (put_field k p' v'))
  pub on_move : (c n : ℕ) (v v' : Value) → V v v' → Q (at_once (move_to w.classes c n v)) (at_once (move_to w'.classes (r c) n v'))
  pub on_make : (c : ℕ) → Q (at_once (make_object w.classes c)) (at_once (make_object w'.classes (r c)))
  pub on_ask : (b : Builtin) (vs vs' : List Value) → All2 V vs vs' → Q (at_once (ask b vs)) (at_once (ask b vs'))
  -- calls
  pub on_call : (k : ℕ) (vs vs' : List Value) → All2 V vs vs' → Q (w.calls k vs) (w'.calls (f k) vs')
  pub on_virtual : (m : ℕ) (v v' : Value) (vs vs' : List Value) → V v v' → All2 V vs vs' → Q (w.virtual_calls m v vs) (w'.virtual_calls m v' vs')
  pub on_open : (k : ℕ) (vs vs' : List Value) → All2 V vs vs' → Q (w.open_calls k vs) (w'.open_calls (f k) vs')

module _ (r f : ℕ → ℕ) (V : Value → Value → Type 0) (w w' : Setting)
    (R : (k : Kind) → From Store (Given k) → From Store (Given k) → Type 0)
    (Q : From State Value → From State Value → Type 0)
    (law : Relates r f V w w' R Q) where
  abbrev Rv : From Store Value → From Store Value → Type 0
  Rv = R one

  abbrev Rf : From Store Flow → From Store Flow → Type 0
  Rf = R flow

  both_of : {a b : Result Value Trap} → Both V a b → Rv (or_trap a) (or_trap b)
  both_of (given h) = law.on_pure one _ _ h
  both_of (stopped t) = law.on_trap one t

  on_both : (a b : Result Value Trap) → Both V a b → Rv (or_trap a) (or_trap b)
  on_both a b h = both_of h

  on_if : (k : Kind) (b b' : Bool) (m n m' n' : From Store (Given k)) → b ≡ b' → R k m m' → R k n n' → R k (if b then m else n) (if b' then m' else n')
  on_if j true b' m n m' n' e h k = rw (← e) h
  on_if j false b' m n m' n' e h k = rw (← e) k

  -- a value, and what it leads to
  bind : (m n : From Store Value) (g h : Value → From Store Value) → Rv m n → ((v v' : Value) → V v v' → Rv (g v) (h v')) → Rv (m >>= g) (n >>= h)
  bind m n g h = law.on_then one one m n g h

  gives : (m n : From Store Value) (g h : Value → From Store Flow) → Rv m n → ((v v' : Value) → V v v' → Rf (g v) (h v')) → Rf (m >>= g) (n >>= h)
  gives m n g h = law.on_then one flow m n g h

  with_all : (m n : From Store (List Value)) (g h : List Value → From Store Value) → R many m n → ((vs vs' : List Value) → All2 V vs vs' → Rv (g vs) (h vs')) → Rv (m >>= g) (n >>= h)
  with_all m n g h = law.on_then many one m n g h

  both_truth : (v v' : Value) → V v v' → V (Truth (not (is_true v))) (Truth (not (is_true v')))
  both_truth v v' h = rw (law.is_same v v' h) (law.truth (not (is_true v')))

  mutual
    pub value_related : (e : Expr) → Rv (value_of w e) (value_of w' (renamed r f e))
    value_related (int z) = law.on_pure one _ _ (law.number z)
    value_related (unsigned n) = law.on_pure one _ _ (law.word n)
    value_related (bool b) = law.on_pure one _ _ (law.truth b)
    value_related (null c) = law.on_pure one _ _ law.nulls
    value_related (local x) = law.on_get x
    value_related (set_local x e) = bind _ _ _ _ (value_related e) (λ v v' h. law.on_put x v v' h)
    value_related (field k e) = bind _ _ _ _ (value_related e) (λ v v' h. law.on_outside _ _ (law.on_field k v v' h))
    value_related (set_field k e d) = bind _ _ _ _ (value_related e) (λ p p' h. bind _ _ _ _ (value_related d) (λ v v' i. law.on_outside _ _ (law.on_set k p p' v v' h i)))
    value_related (not_null e) = bind _ _ _ _ (value_related e) (λ v v' h. on_both _ _ (law.test_same v v' h))
    value_related (move c n e) = bind _ _ _ _ (value_related e) (λ v v' h. law.on_outside _ _ (law.on_move c n v v' h))
    value_related (convert t e) = bind _ _ _ _ (value_related e) (λ v v' h. law.on_pure one _ _ (law.convert_same t v v' h))
    value_related (binary op d e) = bind _ _ _ _ (value_related d) (λ x x' h. bind _ _ _ _ (value_related e) (λ y y' i. on_both _ _ (law.operate_same op x x' y y' h i)))
    value_related (negation e) = bind _ _ _ _ (value_related e) (λ v v' h. law.on_pure one _ _ (both_truth v v' h))
    value_related (both d e) = bind _ _ _ _ (value_related d) (λ x x' h. on_if one (is_true x) (is_true x') _ _ _ _ (law.is_same x x' h) (value_related e) (law.on_pure one _ _ (law.truth false)))
    value_related (either d e) = bind _ _ _ _ (value_related d) (λ x x' h. on_if one (is_true x) (is_true x') _ _ _ _ (law.is_same x x' h) (law.on_pure one _ _ (law.truth true)) (value_related e))
    value_related (choose c d e) = bind _ _ _ _ (value_related c) (λ x x' h. on_if one (is_true x) (is_true x') _ _ _ _ (law.is_same x x' h) (value_related d) (value_related e))
    value_related (call k es) = with_all _ _ _ _ (values_related es) (λ vs vs' h. law.on_outside _ _ (law.on_call k vs vs' h))
    value_related (virtual_call m e es) = bind _ _ _ _ (value_related e) (λ v v' h. with_all _ _ _ _ (values_related es) (λ vs vs' i. law.on_outside _ _ (law.on_virtual m v v' vs vs' h i)))
    value_related (open_call k es) = with_all _ _ _ _ (values_related es) (λ vs vs' h. law.on_outside _ _ (law.on_open k vs vs' h))
    value_related (builtin b es) = with_all _ _ _ _ (values_related es) (λ vs vs' h. law.on_outside _ _ (law.on_ask b vs vs' h))
    value_related (new c) = law.on_outside _ _ (law.on_make c)
    value_related (step_local x c) = bind _ _ _ _ (law.on_get x) (λ old old' h. bind _ _ _ _ (on_both _ _ (law.change_same c old old' h)) (λ v v' i. bind _ _ _ _ (law.on_put x v v' i) (λ y y' j. law.on_pure one old old' h)))
    value_related (step_field k c e) = bind _ _ _ _ (value_related e) (λ q q' h. bind _ _ _ _ (law.on_outside _ _ (law.on_field k q q' h)) (λ old old' i. bind _ _ _ _ (on_both _ _ (law.change_same c old old' i)) (λ v v' j. bind _ _ _ _ (law.on_outside _ _ (law.on_set k q q' v v' h j)) (λ y y' l. law.on_pure one old old' i))))
    value_related (compound op k e d) = bind _ _ _ _ (value_related e) (λ q q' h. bind _ _ _ _ (law.on_outside _ _ (law.on_field k q q' h)) (λ old old' i. bind _ _ _ _ (value_related d) (λ y y' j. bind _ _ _ _ (on_both _ _ (law.compound_same op old old' y y' i j)) (λ v v' l. law.on_outside _ _ (law.on_set k q q' v v' h l)))))

    pub values_related : (es : Exprs) → R many (values_of w es) (values_of w' (all_renamed r f es))
    values_related no_exprs = law.on_pure many _ _ none
    values_related (expr_and e es) = law.on_then one many _ _ _ _ (value_related e) (λ v v' h. law.on_then many many _ _ _ _ (values_related es) (λ vs vs' i. law.on_pure many _ _ (one_and h i)))

  unless_of : {a b : Flow} (m n : From Store Flow) → Flows V a b → Rf m n → Rf (unless_left a m) (unless_left b n)
  unless_of m n next h = h
  unless_of m n broke h = law.on_pure flow Broke Broke broke
  unless_of m n continued h = law.on_pure flow Continued Continued continued
  unless_of m n (returned i) h = law.on_pure flow _ _ (returned i)

  on_unless : (a b : Flow) (m n : From Store Flow) → Flows V a b → Rf m n → Rf (unless_left a m) (unless_left b n)
  on_unless a b m n i h = unless_of m n i h

  on_then_flow : (m m' n n' : From Store Flow) → Rf m m' → Rf n n' → Rf (then_flow m n) (then_flow m' n')
  on_then_flow m m' n n' h k = law.on_then flow flow _ _ _ _ h (λ a b i. on_unless a b n n' i k)

  on_tested : (m m' : From Store Value) (n n' : From Store Flow) → Rv m m' → Rf n n' → Rf (tested m n) (tested m' n')
  on_tested m m' n n' h k = gives _ _ _ _ h (λ v v' i. on_if flow (is_true v) (is_true v') n (pure Broke) n' (pure Broke) (law.is_same v v' i) k (law.on_pure flow _ _ broke))

  module _ (types types' : List Ty) (on_made : (x : ℕ) → Q (at_once (make_variable w.classes (slice_get types x))) (at_once (make_variable w'.classes (slice_get types' x)))) where
    mutual
      pub flow_related : (st : Stmt) → Rf (flow_of w types st) (flow_of w' types' (renamed_stmt r f st))
      flow_related (block ss) = flows_related ss
      flow_related (run e) = gives _ _ _ _ (value_related e) (λ v v' h. law.on_pure flow _ _ next)
      flow_related (if_else e ss ts) = gives _ _ _ _ (value_related e) (λ v v' h. on_if flow (is_true v) (is_true v') _ _ _ _ (law.is_same v v' h) (flows_related ss) (flows_related ts))
      flow_related (while_do e ss) = law.on_loop _ _ _ _ (law.on_pure flow _ _ next) (on_tested _ _ _ _ (value_related e) (flows_related ss))
      flow_related (do_while ss e) = law.on_loop _ _ _ _ (on_tested _ _ _ _ (value_related e) (law.on_pure flow _ _ next)) (flows_related ss)
      flow_related (for_do e st ss) = law.on_loop _ _ _ _ (flow_related st) (on_tested _ _ _ _ (value_related e) (flows_related ss))
      flow_related break = law.on_pure flow _ _ broke
      flow_related continue = law.on_pure flow _ _ continued
      flow_related return_nothing = law.on_pure flow _ _ (returned law.nothing)
      flow_related (return e) = gives _ _ _ _ (value_related e) (λ v v' h. law.on_pure flow _ _ (returned h))
      flow_related (make x) = gives _ _ _ _ (law.on_outside _ _ (on_made x)) (λ v v' h. gives _ _ _ _ (law.on_put x v v' h) (λ y y' i. law.on_pure flow _ _ next))

      pub flows_related : (ss : Stmts) → Rf (flows_of w types ss) (flows_of w' types' (renamed_stmts r f ss))
      flows_related no_stmts = law.on_pure flow _ _ next
      flows_related (stmt_and st ss) = on_then_flow _ _ _ _ (flow_related st) (flows_related ss)
