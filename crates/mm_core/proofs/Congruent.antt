-- A law of runs of one program that holds of what nodes are made of holds of all nodes, and of functions: an instance of what
-- is said of two programs.
use Rattle.std.proofs.Common.{◌≡◌, ℕ, List, Option, Some, None, refl, subst, ap, ap₂}
use Rattle.std.specs.Prelude.{Result, slice_get}
use Rattle.mm_base.specs.declared.num.Trap.{Trap}
use Rattle.mm_base.specs.declared.num.Trap.TheVariants as by
use Rattle.mm_meaning.specs.Run.{◌>>=◌, pure}
use Rattle.mm_classes.specs.declared.class.Ty.{Ty}
use Rattle.mm_core.specs.Tree.{Stmt, Function, Program}
use Rattle.mm_core.specs.Heads.{local_types}
use Rattle.mm_core.specs.State.{Value, State, Store, Locals, start, From, trap, Operation, at_once, outside}
use Rattle.mm_core.specs.Scalar.{is_true, converted, operate, changed, compounded}
use Rattle.mm_core.specs.Objects.{make_object, make_variable, get_field, put_field}
use Rattle.mm_core.specs.Moves.{move_to, tested_pointer}
use Rattle.mm_core.specs.Virtual.{Calls, reads, Entry, result_of_entry, entered, virtual_entry, call_virtual}
use Rattle.mm_core.specs.Open.{open_entry, call_open}
use Rattle.mm_core.specs.Meaning.{Setting, get_local, put_local, ask, Flow, loop, flow_of, result_of, enter_body, enter_if, setting_of}
use Rattle.mm_core.proofs.Quiet.{Quiet, make_quiet, variable_quiet, get_quiet, put_quiet, to_quiet, result_quiet, ask_quiet}
use Rattle.mm_core.proofs.Related.{Given, Both, Relates, flow_related}
use Rattle.mm_core.proofs.Unchanged.{same, Equal, stmt_same, all_equal, rel_equal, rel_self, both_self}

-- R relates runs with locals, and Q runs in the state alone.
pub record Congruence (R : (A : Type 0) → From Store A → From Store A → Type 0) (Q : (A : Type 0) → From State A → From State A → Type 0) : Type 1 where
  pub on_pure : (A : Type 0) (a : A) → R A (pure a) (pure a)
  pub on_then : (A B : Type 0) (m n : From Store A) (f g : A → From Store B) → R A m n → ((a : A) → R B (f a) (g a)) → R B (m >>= f) (n >>= g)
  pub on_trap : (A : Type 0) (t : Trap) → R A (trap t) (trap t)
  pub on_get : (x : ℕ) → R Value (get_local x) (get_local x)
  pub on_put : (x : ℕ) (v : Value) → R Value (put_local x v) (put_local x v)
  pub on_outside : (m n : From State Value) → Q Value m n → R Value (outside m) (outside n)
  pub on_loop : (before before' body body' : From Store Flow) → R Flow before before' → R Flow body body' → R Flow (loop before body) (loop before' body')
  pub state_then : (A B : Type 0) (m n : From State A) (f g : A → From State B) → Q A m n → ((a : A) → Q B (f a) (g a)) → Q B (m >>= f) (n >>= g)
  pub state_reads : (A : Type 0) (f : State → Result A Trap) → Q A (reads f) (reads f)
  pub state_once : (op : Operation) → Quiet op → Q Value (at_once op) (at_once op)
  pub state_trap : (A : Type 0) (t : Trap) → Q A (trap t) (trap t)
  pub on_body : (f : Function) (locals : Locals) (m n : From Store Flow) → R Flow m n → Q Value (λ s k. result_of f (m (record { locals = locals; state = s }) k)) (λ s k. result_of f (n (record { locals = locals; state = s }) k))

module _ (R : (A : Type 0) → From Store A → From Store A → Type 0) (Q : (A : Type 0) → From State A → From State A → Type 0) (law : Congruence R Q) where
  module _ (p : Program) (calls calls' : Calls) (related : (f : ℕ) (vs : List Value) → Q Value (calls f vs) (calls' f vs)) where
    -- ---- calls

    entered_law : (e : Entry) → Q Value (entered p calls e) (entered p calls' e)
    entered_law e = law.state_then Value Value _ _ _ _ (related e.function e.arguments) (λ v. law.state_once _ (result_quiet p.classes (result_of_entry (slice_get p.functions e.function)) e.declared v))

    virtual_law : (m : ℕ) (v : Value) (vs : List Value) → Q Value (call_virtual p calls m v vs) (call_virtual p calls' m v vs)
    virtual_law m v vs = law.state_then Entry Value _ _ _ _ (law.state_reads Entry (virtual_entry p m v vs)) entered_law

    open_law : (f : ℕ) (vs : List Value) → Q Value (call_open p calls f vs) (call_open p calls' f vs)
    open_law f vs = law.state_then Entry Value _ _ _ _ (law.state_reads Entry (open_entry p f vs)) entered_law

    -- ---- nodes

    abbrev w : Setting
    w = setting_of p calls

    abbrev w' : Setting
    w' = setting_of p calls'

    once : (op op' : Operation) → Quiet op → op ≡ op' → Q Value (at_once op) (at_once op')
    once op op' h e = subst (λ o. Q Value (at_once op) (at_once o)) e (law.state_once op h)

    relates : Relates same same Equal w w' (λ k. R (Given k)) (Q Value)
    relates = record {
      on_pure = λ k a b e. subst (λ x. R (Given k) (pure a) (pure x)) (rel_equal k a b e) (law.on_pure (Given k) a);
      on_then = λ j k m n g h x y. law.on_then (Given j) (Given k) m n g h x (λ a. y a a (rel_self j a));
      on_trap = λ k t. law.on_trap (Given k) t;
      on_get = law.on_get;
      on_put = λ x v v' e. subst (λ u. R Value (put_local x v) (put_local x u)) e (law.on_put x v);
      on_outside = law.on_outside;
      on_loop = law.on_loop;
      truth = λ b. refl;
      number = λ z. refl;
      word = λ n. refl;
      nulls = refl;
      nothing = refl;
      is_same = λ v v' e. ap is_true e;
      convert_same = λ t v v' e. ap (converted t) e;
      test_same = λ v v' e. subst (λ u. Both Equal (tested_pointer v) (tested_pointer u)) e (both_self (tested_pointer v));
      operate_same = λ op x x' y y' e d. rw (← e, ← d) (both_self (operate op x y));
      change_same = λ c v v' e. rw (← e) (both_self (changed c v));
      compound_same = λ op x x' y y' e d. rw (← e, ← d) (both_self (compounded op x y));
      on_field = λ k v v' e. once (get_field k v) (get_field k v') (get_quiet k v) (ap (get_field k) e);
      on_set = λ k q q' v v' e d. once (put_field k q v) (put_field k q' v') (put_quiet k q v) (ap₂ (put_field k) e d);
      on_move = λ c n v v' e. once (move_to p.classes c n v) (move_to p.classes c n v') (to_quiet p.classes c n v) (ap (move_to p.classes c n) e);
      on_make = λ c. law.state_once (make_object p.classes c) (make_quiet p.classes c);
      on_ask = λ b vs vs' e. once (ask b vs) (ask b vs') (ask_quiet b vs) (ap (ask b) (all_equal e));
      on_call = λ k vs vs' e. subst (λ us. Q Value (calls k vs) (calls' k us)) (all_equal e) (related k vs);
      on_virtual = λ m v v' vs vs' e d. subst (λ u. Q Value (call_virtual p calls m v vs) (call_virtual p calls' m u vs')) e (subst (λ us. Q Value (call_virtual p calls m v vs) (call_virtual p calls' m v us)) (all_equal d) (virtual_law m v vs));
      on_open = λ k vs vs' e. subst (λ us. Q Value (call_open p calls k vs) (call_open p calls' k us)) (all_equal e) (open_law k vs);
    }

    flow_law : (types : List Ty) (st : Stmt) → R Flow (flow_of w types st) (flow_of w' types st)
    flow_law types st = subst (λ u. R Flow (flow_of w types st) (flow_of w' types u)) (stmt_same st)
        (flow_related same same Equal w w' (λ k. R (Given k)) (Q Value) relates types types (λ x. law.state_once (make_variable p.classes (slice_get types x)) (variable_quiet p.classes (slice_get types x))) st)

    -- ---- functions

    body_law : (f : Function) (o : Option Stmt) (vs : List Value) → Q Value (enter_body w f o vs) (enter_body w' f o vs)
    body_law f None vs = law.state_trap Value by.NoResult
    body_law f (Some st) vs = law.on_body f (start vs f.locals) _ _ (flow_law (local_types p.classes f) st)

    pub enter_law : (o : Option Function) (vs : List Value) → Q Value (enter_if w o vs) (enter_if w' o vs)
    enter_law None vs = law.state_trap Value by.NoResult
    enter_law (Some f) vs = body_law f f.body vs
