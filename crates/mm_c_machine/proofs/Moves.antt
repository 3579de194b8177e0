-- What each move does to the meaning.
use Rattle.std.proofs.Common.{◌≡◌, ◌≢◌, ℕ, zero, suc, ◌+◌, ◌-◌, ◌≤◌, Bool, true, false, List, [], ◌∷◌, ◌++◌, length, get_or, replicate, map, Option, Some, None, refl, sym, ap, ◌∙◌, subst, arith, if◌then◌else◌, slice_get}
use Rattle.std.specs.Prelude.{ℤ, pos, negsuc}
use Rattle.std.proofs.lemmas.List.{length-set, length-append, length-replicate, append-nil}
use Rattle.mm_base.specs.World.{World}
use Rattle.mm_meaning.specs.Run.{Run, Gives, Stops, ◌>>=◌, then, pure}
use Rattle.mm_c.specs.declared.value.CCell.{CCell}
use Rattle.mm_c.specs.declared.value.CValue.{CValue}
use Rattle.mm_c.specs.declared.value.CValue.TheVariants.{Int, Unsigned, Long, Null, At}
use Rattle.mm_c.specs.declared.tree.CKind.{CKind}
use Rattle.mm_c.specs.Memory as c
use Rattle.mm_c.specs.CMeaning.{Stop, Spent, Stuck, State, From, or_stuck, fitted, fitted_in, Flow, Next, Continued, given_call}
use Rattle.mm_c_placed.specs.declared.tree.Operand.{Operand}
use Rattle.mm_c_placed.specs.declared.tree.Address.{Address}
use Rattle.mm_c_placed.specs.declared.tree.Operand.TheVariants.{Place, Value}
use Rattle.mm_c_placed.specs.declared.tree.Index.{Index}
use Rattle.mm_c_placed.specs.declared.tree.Index.TheVariants as index_is
use Rattle.mm_c_placed.specs.declared.tree.Right.{Right}
use Rattle.mm_c_placed.specs.declared.tree.Right.TheVariants as right_is
use Rattle.mm_c_placed.specs.declared.tree.Callee.{Callee}
use Rattle.mm_c_placed.specs.declared.tree.Callee.TheVariants as callee_is
use Rattle.mm_c_placed.specs.declared.tree.Target.{Target}
use Rattle.mm_c_placed.specs.declared.tree.Target.TheVariants as target_is
use Rattle.mm_c_placed.specs.declared.tree.Local.{Local}
use Rattle.mm_c_placed.specs.Tree.{Stmt, locals, assign, store, run, if_else, forever, break, continue, leave, return, Code, done, do_then, Function, Program}
use Rattle.mm_c_placed.specs.Meaning.{Store, start, operand_of, Around, value_in, callee_in, set_place, receive, stored, unless_left, next_turn, if_zero, called, call_of, flow_of, flows_of, end_of, given, enter, at_function, Steps, plain_entry, any_entry, around_in, now}
use Rattle.mm_c_placed.specs.Ready.{IsIn, IsInStmt, IsInResult, IsInOperand, IsInIndex, IsInRight, IsInTarget}
use Rattle.mm_c_placed.proofs.Deep.{now_step, forever_step, steady_in}
use Rattle.mm_c_memory.specs.declared.memory.Memory.{Memory}
use Rattle.mm_c_memory.specs.Held.{Holds}
use Rattle.mm_c_machine.specs.Frames.{fitted_all, with_zeros}
use Rattle.mm_c_machine.specs.Answers.{state, given_of, callee_of}
use Rattle.mm_c_machine.specs.declared.prelude.Prelude.{Prelude}
use Rattle.mm_c_machine.specs.declared.prelude.Prelude.TheVariants as prelude
use Rattle.mm_c_machine.specs.State.{Level, Piece, rest, loop, ret, At as First, code, leaves, no_way, Core, with_at, with_values, with_local, entered, store_of}
use Rattle.mm_c_machine.specs.Ready.{AreReady, IsReadyCore, size, sum_sizes, most_in, weight_after, weight}
use Rattle.mm_c_machine.specs.Goes.{calls_in, around, starts, back, follows, means, HasStop, HasEnd, Grows, GoesFurther, Ends, Received}
use Rattle.mm_c_machine.specs.Goes as goes
use Rattle.mm_c_machine.specs.declared.machine.Ending.TheVariants as ending
use Rattle.mm_c_machine.proofs.Frames.{nought, start-set, start-zeros, start-cleared, length-cleared}

abbrev pub core : First → Level → List Piece → Core
core a l ps = record { at = a; level = l; pieces = ps }

-- a stop takes no piece
pub follows_stops : (p : Program) (r : Option CKind) (i : Bool) (ps : List Piece) (t : Stop) (s : Store) → follows p r i ps (Stops t s) ≡ Stops t s.state
follows_stops p r i [] t s = refl
follows_stops p r i (rest c ∷ ps) t s = follows_stops p r i ps t s
follows_stops p r i (loop c ∷ ps) t s = follows_stops p r i ps t s
follows_stops p r i (ret x l c ∷ ps) t s = follows_stops p l.result l.is_inline ps t (store_of l s.state)

pub as_before : (w : World) → Grows w w
as_before w = record { input = refl; put = ([], sym (append-nil w.put)) }

-- a loop is a step, the block, and the loop again
loop_step : (p : Program) (i : Bool) (b : Code) (s : Store) (k : ℕ) → flow_of (around p i) (forever b) s (suc k) ≡ (then) (flows_of (around p i) b s k) (λ flow. next_turn flow (flow_of (around p i) (forever b)))
loop_step p true b s k = forever_step (around_in p (now p) true) (steady_in p true) b s k
loop_step p false b s k = forever_step (around_in p (now p) false) (steady_in p false) b s k

-- what was called and received, and then the code behind
after_call : (q : Run Stop Store (Unit {0})) (next : From Store Flow) → (then) ((then) q (λ u. pure Next)) (λ flow. unless_left flow next) ≡ (then) q (λ u. next)
after_call (Gives u s k) next = refl
after_call (Stops t s) next = refl

call_tail : (x : Option Local) (next : From Store Flow) (q : Run Stop Store (Option CValue)) → (then) ((then) q (λ r. receive x r >>= (λ u. pure Next))) (λ flow. unless_left flow next) ≡ (then) ((then) q (receive x)) (λ u. next)
call_tail x next (Gives r s k) = after_call (receive x r s k) next
call_tail x next (Stops t s) = refl

if_true : {A : Type 0} (b : Bool) (y z : A) → b ≡ true → (if b then y else z) ≡ y
if_true true y z e = refl
if_true false y z e = cc

if_false : {A : Type 0} (b : Bool) (y z : A) → b ≡ false → (if b then y else z) ≡ z
if_false true y z e = cc
if_false false y z e = refl

module _ (p : Program) (l : Level) (ps : List Piece) (m : List c.Block) (w : World) where
  abbrev A : Around
  A = around p l.is_inline

  abbrev on : Run Stop Store Flow → Run Stop State (Option CValue)
  on = follows p l.result l.is_inline ps

  abbrev here : Store
  here = store_of l (state m w)

  stopped : (t : Stop) → HasStop t w (on (Stops t here))
  stopped t = (m, follows_stops p l.result l.is_inline ps t here)

  pub locals_go : (xs : List Local) (more : Code) (held : Memory) → Holds m held → IsReadyCore (core (code (do_then (locals xs) more)) l ps) → GoesFurther p (core (code (do_then (locals xs) more)) l ps) m w (core (code more) (with_values l (with_zeros xs l.values)) ps) held w
  locals_go xs more held holds h = record {
    to = m;
    holds = holds;
    same = λ k. ap (λ f. on (flows_of A more (record { frame = f; state = state m w }) k)) (sym (start-cleared xs l.values h.here.0));
    less = omega arith;
    ready = record { here = rw (length-cleared xs l.values) h.here.1; after = rw (length-cleared xs l.values) h.after };
    grows = as_before w;
  }

  pub assign_goes : (x : Local) (r : Right) (v : CValue) (more : Code) (held : Memory) → Holds m held → IsReadyCore (core (code (do_then (assign x r) more)) l ps) → value_in A here r ≡ Some v → GoesFurther p (core (code (do_then (assign x r) more)) l ps) m w (with_at (with_local (core (code done) l ps) x v) (code more)) held w
  assign_goes x r v more held holds h e = record {
    to = m;
    holds = holds;
    same = λ k. ap (λ o. on ((then) ((then) (or_stuck o here k) (λ v. set_place x v >>= (λ u. pure Next))) (λ flow. unless_left flow (flows_of A more)))) e
        ∙ ap (λ f. on (flows_of A more (record { frame = f; state = state m w }) k)) (sym (start-set l.values x.place (fitted x.kind v) h.here.0.0));
    less = omega arith;
    ready = record { here = rw (length-set l.values x.place (fitted x.kind v)) h.here.1; after = rw (length-set l.values x.place (fitted x.kind v)) h.after };
    grows = as_before w;
  }

  pub assign_stuck : (x : Local) (r : Right) (more : Code) → value_in A here r ≡ None → Ends p ending.Stuck (core (code (do_then (assign x r) more)) l ps) m w w
  assign_stuck x r more e = record {
    same = λ k. subst (λ o. HasStop Stuck w (on ((then) ((then) (or_stuck o here k) (λ v. set_place x v >>= (λ u. pure Next))) (λ flow. unless_left flow (flows_of A more))))) (sym e) (stopped Stuck);
    grows = as_before w;
  }

  pub store_goes : (kind : CCell) (a : Address) (v : Operand) (more : Code) (m' : List c.Block) (held : Memory) → Holds m' held → IsReadyCore (core (code (do_then (store kind a v) more)) l ps) → c.store m kind (start l.values a.pointer) a.offset (fitted_in kind (operand_of (start l.values) v)) ≡ Some m' → GoesFurther p (core (code (do_then (store kind a v) more)) l ps) m w (core (code more) l ps) held w
  store_goes kind a v more m' held holds h e = record {
    to = m';
    holds = holds;
    same = λ k. ap (λ o. on ((then) ((then) (stored o here k) (λ u. pure Next)) (λ flow. unless_left flow (flows_of A more)))) e;
    less = omega arith;
    ready = record { here = h.here.1; after = h.after };
    grows = as_before w;
  }

  pub store_stuck : (kind : CCell) (a : Address) (v : Operand) (more : Code) → c.store m kind (start l.values a.pointer) a.offset (fitted_in kind (operand_of (start l.values) v)) ≡ None → Ends p ending.Stuck (core (code (do_then (store kind a v) more)) l ps) m w w
  store_stuck kind a v more e = record {
    same = λ k. subst (λ o. HasStop Stuck w (on ((then) ((then) (stored o here k) (λ u. pure Next)) (λ flow. unless_left flow (flows_of A more))))) (sym e) (stopped Stuck);
    grows = as_before w;
  }

  -- ---- choices

  zero_takes : (v : CValue) (b d : Code) → v ≡ Int (pos 0) → if_zero v (flows_of A d) (flows_of A b) ≡ flows_of A d
  zero_takes v b d e = ap (λ q. if_zero q (flows_of A d) (flows_of A b)) e

  other_takes : (z : ℤ) (b d : Code) → z ≢ pos 0 → if_zero (Int z) (flows_of A d) (flows_of A b) ≡ flows_of A b
  other_takes (pos zero) b d n = absurd (n refl)
  other_takes (pos (suc k)) b d n = refl
  other_takes (negsuc k) b d n = refl

  abbrev chosen : From Store Flow → Code → ℕ → Run Stop State (Option CValue)
  chosen f more k = on ((then) (f here k) (λ flow. unless_left flow (flows_of A more)))

  pub else_goes : (a : Operand) (b d more : Code) (held : Memory) → Holds m held → IsReadyCore (core (code (do_then (if_else a b d) more)) l ps) → operand_of (start l.values) a ≡ Int (pos 0) → GoesFurther p (core (code (do_then (if_else a b d) more)) l ps) m w (core (code d) l (rest more ∷ ps)) held w
  else_goes a b d more held holds h e = record {
    to = m;
    holds = holds;
    same = λ k. ap (λ f. chosen f more k) (zero_takes (operand_of (start l.values) a) b d e);
    less = omega arith;
    ready = record { here = h.here.0.2; after = (h.here.1, h.after) };
    grows = as_before w;
  }

  pub then_goes : (a : Operand) (z : ℤ) (b d more : Code) (held : Memory) → Holds m held → IsReadyCore (core (code (do_then (if_else a b d) more)) l ps) → operand_of (start l.values) a ≡ Int z → z ≢ pos 0 → GoesFurther p (core (code (do_then (if_else a b d) more)) l ps) m w (core (code b) l (rest more ∷ ps)) held w
  then_goes a z b d more held holds h e n = record {
    to = m;
    holds = holds;
    same = λ k. ap (λ f. chosen f more k) (ap (λ q. if_zero q (flows_of A d) (flows_of A b)) e ∙ other_takes z b d n);
    less = omega arith;
    ready = record { here = h.here.0.1; after = (h.here.1, h.after) };
    grows = as_before w;
  }

  not_chosen : (v : CValue) (b d more : Code) (k : ℕ) → ((z : ℤ) → v ≡ Int z → ⊥) → HasStop Stuck w (chosen (if_zero v (flows_of A d) (flows_of A b)) more k)
  not_chosen (Int z) b d more k other = absurd (other z refl)
  not_chosen (Unsigned n) b d more k other = stopped Stuck
  not_chosen (Long n) b d more k other = stopped Stuck
  not_chosen Null b d more k other = stopped Stuck
  not_chosen (At x o) b d more k other = stopped Stuck

  pub if_stuck : (a : Operand) (v : CValue) (b d more : Code) → v ≡ operand_of (start l.values) a → ((z : ℤ) → v ≡ Int z → ⊥) → Ends p ending.Stuck (core (code (do_then (if_else a b d) more)) l ps) m w w
  if_stuck a v b d more e other = record {
    same = λ k. subst (λ q. HasStop Stuck w (chosen (if_zero q (flows_of A d) (flows_of A b)) more k)) e (not_chosen v b d more k other);
    grows = as_before w;
  }

  -- ---- loops, and ways on

  pub loop_goes : (b more : Code) (held : Memory) → Holds m held → IsReadyCore (core (code (do_then (forever b) more)) l ps) → goes.Steps p (core (code (do_then (forever b) more)) l ps) m w (core (code b) l (loop b ∷ rest more ∷ ps)) held w
  loop_goes b more held holds h = record {
    to = m;
    holds = holds;
    same = λ k. ap (λ q. on ((then) q (λ flow. unless_left flow (flows_of A more)))) (loop_step p l.is_inline b here k);
    spent = stopped Spent;
    ready = record { here = h.here.0; after = (h.here.0, (h.here.1, h.after)) };
    grows = as_before w;
  }

  pub turn_goes : (b : Code) (held : Memory) → Holds m held → IsReadyCore (core (leaves Next) l (loop b ∷ ps)) → goes.Steps p (core (leaves Next) l (loop b ∷ ps)) m w (core (code b) l (loop b ∷ ps)) held w
  turn_goes b held holds h = record {
    to = m;
    holds = holds;
    same = λ k. ap on (loop_step p l.is_inline b here k);
    spent = stopped Spent;
    ready = record { here = h.after.0; after = h.after };
    grows = as_before w;
  }

  pub again_goes : (b : Code) (held : Memory) → Holds m held → IsReadyCore (core (leaves Continued) l (loop b ∷ ps)) → goes.Steps p (core (leaves Continued) l (loop b ∷ ps)) m w (core (code b) l (loop b ∷ ps)) held w
  again_goes b held holds h = record {
    to = m;
    holds = holds;
    same = λ k. ap on (loop_step p l.is_inline b here k);
    spent = stopped Spent;
    ready = record { here = h.after.0; after = h.after };
    grows = as_before w;
  }

-- ---- what a call leaves

module _ (p : Program) (l : Level) (ps : List Piece) (a : First) (x : Option Local) (r : Option CValue) (more : Code) (s' : Core) where
  abbrev B : Around
  B = around p l.is_inline

  pub receive_same : Received true x r (core a l ps) more s' → IsInResult (length l.values) x → (st : State) (k : ℕ) → follows p l.result l.is_inline ps ((then) (receive x r (store_of l st) k) (λ u. flows_of B more)) ≡ means p s' st k
  receive_same h fits st k = go x r h fits
    where
      go : (x : Option Local) (r : Option CValue) → Received true x r (core a l ps) more s' → IsInResult (length l.values) x → follows p l.result l.is_inline ps ((then) (receive x r (store_of l st) k) (λ u. flows_of B more)) ≡ means p s' st k
      go None r h fits = ap (λ s. means p s st k) (sym h)
      go (Some x) None h fits = absurd h
      go (Some x) (Some v) h fits =
          ap (λ f. follows p l.result l.is_inline ps (flows_of B more (record { frame = f; state = st }) k)) (sym (start-set l.values x.place (fitted x.kind v) fits))
          ∙ ap (λ s. means p s st k) (sym h)

  pub receive_ready : Received true x r (core a l ps) more s' → IsIn (length l.values) more → AreReady (length l.values) ps → IsReadyCore s'
  receive_ready h fits after = go x r h
    where
      go : (x : Option Local) (r : Option CValue) → Received true x r (core a l ps) more s' → IsReadyCore s'
      go None r h = subst IsReadyCore (sym h) (record { here = fits; after = after })
      go (Some x) None h = absurd h
      go (Some x) (Some v) h =
          let n = length-set l.values x.place (fitted x.kind v) in
          subst IsReadyCore (sym h) (record { here = subst (λ n. IsIn n more) (sym n) fits; after = subst (λ n. AreReady n ps) (sym n) after })

  pub receive_weight : Received true x r (core a l ps) more s' → weight p s' ≡ size (most_in p l.is_inline) more + weight_after p l.is_inline ps
  receive_weight h = go x r h
    where
      go : (x : Option Local) (r : Option CValue) → Received true x r (core a l ps) more s' → weight p s' ≡ size (most_in p l.is_inline) more + weight_after p l.is_inline ps
      go None r h = ap (weight p) h
      go (Some x) None h = absurd h
      go (Some x) (Some v) h = ap (weight p) h

  pub receive_stuck : Received false x r (core a l ps) more s' → (s : Store) (k : ℕ) → receive x r s k ≡ Stops Stuck s
  receive_stuck h s k = go x r h
    where
      go : (x : Option Local) (r : Option CValue) → Received false x r (core a l ps) more s' → receive x r s k ≡ Stops Stuck s
      go None r h = absurd h
      go (Some x) None h = refl
      go (Some x) (Some v) h = absurd h

-- ---- calls

calls_prelude : (p : Program) (i : Bool) (q : Prelude) (vs : List CValue) → calls_in p i (callee_of q) vs ≡ given_call (given_of q) vs
calls_prelude p true (prelude.Asks b) vs = refl
calls_prelude p true prelude.Trap vs = refl
calls_prelude p true prelude.New vs = refl
calls_prelude p false (prelude.Asks b) vs = refl
calls_prelude p false prelude.Trap vs = refl
calls_prelude p false prelude.New vs = refl

abbrev entry_in : Program → Bool → Steps
entry_in p true = plain_entry (now p)
entry_in p false = any_entry p (now p)

calls_function : (p : Program) (i : Bool) (f : ℕ) (vs : List CValue) → calls_in p i (callee_is.Function f) vs ≡ at_function (entry_in p i) (slice_get p.functions f) vs
calls_function p true f vs = refl
calls_function p false f vs = refl

-- a function that isn't inline is a step
enters_step : (p : Program) (i : Bool) (f : Function) (vs : List CValue) → f.is_inline ≡ false → entry_in p i f vs ≡ now p f vs
enters_step p true f vs e = if_false f.is_inline _ (now p f vs) e
enters_step p false f vs e = if_false f.is_inline _ (now p f vs) e

enters_inline : (p : Program) (i : Bool) (f : Function) (vs : List CValue) → f.is_inline ≡ true → i ≡ false → entry_in p i f vs ≡ enter (around p true) f vs
enters_inline p true f vs e g = cc
enters_inline p false f vs e g = if_true f.is_inline (enter (around p true) f vs) _ e

inline_stuck : (p : Program) (i : Bool) (f : Function) (vs : List CValue) → f.is_inline ≡ true → i ≡ true → (st : State) (k : ℕ) → entry_in p i f vs st k ≡ Stops Stuck st
inline_stuck p true f vs e g st k = ap (λ (q : From State (Option CValue)). q st k) (if_true f.is_inline _ (now p f vs) e)
inline_stuck p false f vs e g st k = cc

given_fitted : (ks : List CKind) (vs : List CValue) → length vs ≡ length ks → given ks vs ≡ Some (fitted_all ks vs)
given_fitted [] [] e = refl
given_fitted [] (v ∷ vs) e = absurd (let x : ⊥ = omega (arith, e) in x)
given_fitted (k ∷ ks) [] e = absurd (let x : ⊥ = omega (arith, e) in x)
given_fitted (k ∷ ks) (v ∷ vs) e = rw (given_fitted ks vs (omega (arith, e))) refl

given_none : (ks : List CKind) (vs : List CValue) → length vs ≢ length ks → given ks vs ≡ None
given_none [] [] n = absurd (n refl)
given_none [] (v ∷ vs) n = refl
given_none (k ∷ ks) [] n = refl
given_none (k ∷ ks) (v ∷ vs) n = rw (given_none ks vs (λ e. n (ap suc e))) refl

-- the body of a function that is entered, with any number of further places
entered_body : (p : Program) (i : Bool) (f : Function) (vs : List CValue) (n : ℕ) (st : State) (k : ℕ) → length vs ≡ length f.params → enter (around p i) f vs st k ≡ end_of f.result (flows_of (around p i) f.body (record { frame = start (fitted_all f.params vs ++ replicate n nought); state = st }) k)
entered_body p i f vs n st k e = rw (given_fitted f.params vs e, start-zeros (fitted_all f.params vs) n) refl

not_entered : (p : Program) (i : Bool) (f : Function) (vs : List CValue) (st : State) (k : ℕ) → length vs ≢ length f.params → enter (around p i) f vs st k ≡ Stops Stuck st
not_entered p i f vs st k e = rw (given_none f.params vs e) refl

among : (fs : List Function) (j : ℕ) (f : Function) → slice_get fs j ≡ Some f → size 0 f.body ≤ sum_sizes fs
among [] j f e = cc
among (g ∷ fs) zero f e = let same : g ≡ f = cc in let s = ap (λ (q : Function). size 0 q.body) same in omega (arith, s)
among (g ∷ fs) (suc j) f e = let h = among fs j f e in omega (arith, h)

-- ---- a longer frame serves too

wider_operand : (n n' : ℕ) (a : Operand) → n ≤ n' → IsInOperand n a → IsInOperand n' a
wider_operand n n' (Place x) le h = omega arith
wider_operand n n' (Value v) le h = tt

wider_index : (n n' : ℕ) (i : Index) → n ≤ n' → IsInIndex n i → IsInIndex n' i
wider_index n n' (index_is.Place x) le h = omega arith
wider_index n n' (index_is.Tag a) le h = omega (arith, h, le)

wider_right : (n n' : ℕ) (r : Right) → n ≤ n' → IsInRight n r → IsInRight n' r
wider_right n n' (right_is.Copy a) le h = wider_operand n n' a le h
wider_right n n' (right_is.Binary a o b) le h = (wider_operand n n' a le h.0, wider_operand n n' b le h.1)
wider_right n n' (right_is.ToInt x) le h = omega arith
wider_right n n' (right_is.ToUnsigned x) le h = omega arith
wider_right n n' (right_is.Load d a) le h = omega (arith, h, le)
wider_right n n' (right_is.Index a i) le h = wider_index n n' i le h

wider_target : (n n' : ℕ) (t : Target) → n ≤ n' → IsInTarget n t → IsInTarget n' t
wider_target n n' (target_is.Named f) le h = tt
wider_target n n' (target_is.Element a x) le h = omega arith

wider_result : (n n' : ℕ) (x : Option Local) → n ≤ n' → IsInResult n x → IsInResult n' x
wider_result n n' None le h = tt
wider_result n n' (Some x) le h = omega (arith, h, le)

mutual
  wider_stmt : (n n' : ℕ) (s : Stmt) → n ≤ n' → IsInStmt n s → IsInStmt n' s
  wider_stmt n n' (locals xs) le h = λ k d lt. let f = h k d lt in omega (arith, f, le)
  wider_stmt n n' (assign x r) le h = (let f = h.0 in omega (arith, f, le), wider_right n n' r le h.1)
  wider_stmt n n' (store d a v) le h = (let f = h.0 in omega (arith, f, le), wider_operand n n' v le h.1)
  wider_stmt n n' (run x t as_) le h = (wider_result n n' x le h.0, wider_target n n' t le h.1, λ k d lt. wider_operand n n' (get_or as_ k d) le (h.2 k d lt))
  wider_stmt n n' (if_else a b d) le h = (wider_operand n n' a le h.0, wider n n' b le h.1, wider n n' d le h.2)
  wider_stmt n n' (forever b) le h = wider n n' b le h
  wider_stmt n n' break le h = tt
  wider_stmt n n' continue le h = tt
  wider_stmt n n' leave le h = tt
  wider_stmt n n' (return a) le h = wider_operand n n' a le h

  wider : (n n' : ℕ) (d : Code) → n ≤ n' → IsIn n d → IsIn n' d
  wider n n' done le h = tt
  wider n n' (do_then s more) le h = (wider_stmt n n' s le h.0, wider n n' more le h.1)

long_enough : (vs : List CValue) (slots : ℕ) → slots ≤ length (vs ++ replicate (slots - length vs) nought)
long_enough vs slots = rw (length-append vs (replicate (slots - length vs) nought), length-replicate {A = CValue} (slots - length vs) nought) (omega arith)

module _ (p : Program) (l : Level) (ps : List Piece) (m : List c.Block) (w : World) (x : Option Local) (t : Target) (as_ : List Operand) (more : Code) where
  abbrev C : Around
  C = around p l.is_inline

  abbrev args : List CValue
  args = map (operand_of (start l.values)) as_

  abbrev at : Core
  at = core (code (do_then (run x t as_) more)) l ps

  -- what follows on a call
  abbrev after : Run Stop State (Option CValue) → Run Stop State (Option CValue)
  after q = follows p l.result l.is_inline ps ((then) ((then) (back l q) (receive x)) (λ u. flows_of C more))

  run_means : (k : ℕ) → means p at (state m w) k ≡ after (called C (callee_in C (store_of l (state m w)) t) args (state m w) k)
  run_means k = ap (follows p l.result l.is_inline ps) (call_tail x (flows_of C more) (call_of C t as_ (store_of l (state m w)) k))

  called_means : (g : Callee) → callee_in C (store_of l (state m w)) t ≡ Some g → (k : ℕ) → means p at (state m w) k ≡ after (calls_in p l.is_inline g args (state m w) k)
  called_means g e k = run_means k ∙ ap (λ o. after (called C o args (state m w) k)) e

  after_stop : (s : Stop) → HasStop s w (after (Stops s (state m w)))
  after_stop s = (m, follows_stops p l.result l.is_inline ps s (store_of l (state m w)))

  stops_so : (s : Stop) (q : ℕ → Run Stop State (Option CValue)) → ((k : ℕ) → means p at (state m w) k ≡ after (q k)) → ((k : ℕ) → q k ≡ Stops s (state m w)) → (k : ℕ) → HasStop s w (means p at (state m w) k)
  stops_so s q is e k = subst (HasStop s w) (sym (is k ∙ ap after (e k))) (after_stop s)

  -- there is no such function
  pub no_callee : callee_in C (store_of l (state m w)) t ≡ None → Ends p ending.Stuck at m w w
  no_callee e = record {
    same = stops_so Stuck (λ k. Stops Stuck (state m w)) (λ k. run_means k ∙ ap (λ o. after (called C o args (state m w) k)) e) (λ k. refl);
    grows = as_before w;
  }

  -- ---- the prelude

  pub prelude_goes : (q : Prelude) (v : Option CValue) (m' : List c.Block) (w' : World) (held : Memory) (a : First) (s' : Core) → callee_in C (store_of l (state m w)) t ≡ Some (callee_of q) → IsReadyCore at → Holds m' held → Grows w w' → ((k : ℕ) → given_call (given_of q) args (state m w) k ≡ Gives v (state m' w') k) → Received true x v (core a l ps) more s' → GoesFurther p at m w s' held w'
  prelude_goes q v m' w' held a s' e h holds grows is got = record {
    to = m';
    holds = holds;
    same = λ k. called_means (callee_of q) e k
        ∙ ap (λ (f : List CValue → From State (Option CValue)). after (f args (state m w) k)) (λ i vs. calls_prelude p l.is_inline q vs i)
        ∙ ap after (is k) ∙ receive_same p l ps a x v more s' got h.here.0.0 (state m' w') k;
    less = let n = receive_weight p l ps a x v more s' got in omega (arith, n);
    ready = receive_ready p l ps a x v more s' got h.here.1 h.after;
    grows = grows;
  }

  prelude_means : (q : Prelude) (r : ℕ → Run Stop State (Option CValue)) → callee_in C (store_of l (state m w)) t ≡ Some (callee_of q) → ((k : ℕ) → given_call (given_of q) args (state m w) k ≡ r k) → (k : ℕ) → means p at (state m w) k ≡ after (r k)
  prelude_means q r e is k =
      called_means (callee_of q) e k
      ∙ ap (λ (f : List CValue → From State (Option CValue)). after (f args (state m w) k)) (λ i vs. calls_prelude p l.is_inline q vs i)
      ∙ ap after (is k)

  pub prelude_stops : (q : Prelude) (s : Stop) → callee_in C (store_of l (state m w)) t ≡ Some (callee_of q) → ((k : ℕ) → given_call (given_of q) args (state m w) k ≡ Stops s (state m w)) → (k : ℕ) → HasStop s w (means p at (state m w) k)
  prelude_stops q s e is = stops_so s (λ k. Stops s (state m w)) (prelude_means q (λ k. Stops s (state m w)) e is) (λ k. refl)

  -- a result that nothing receives where one is waited for
  pub prelude_lost : (q : Prelude) (v : Option CValue) (m' : List c.Block) (w' : World) (a : First) (s' : Core) → callee_in C (store_of l (state m w)) t ≡ Some (callee_of q) → Grows w w' → ((k : ℕ) → given_call (given_of q) args (state m w) k ≡ Gives v (state m' w') k) → Received false x v (core a l ps) more s' → Ends p ending.Stuck at m w w'
  prelude_lost q v m' w' a s' e grows is lost = record {
    same = λ k. (
      m',
      prelude_means q (λ k. Gives v (state m' w') k) e is k
          ∙ ap (λ r. follows p l.result l.is_inline ps ((then) r (λ u. flows_of C more))) (receive_stuck p l ps a x v more s' lost (store_of l (state m' w')) k)
          ∙ follows_stops p l.result l.is_inline ps Stuck (store_of l (state m' w')),
    );
    grows = grows;
  }

  -- ---- functions of the program

  function_means : (f : ℕ) (o : Option Function) → callee_in C (store_of l (state m w)) t ≡ Some (callee_is.Function f) → slice_get p.functions f ≡ o → (k : ℕ) → means p at (state m w) k ≡ after (at_function (entry_in p l.is_inline) o args (state m w) k)
  function_means f o e is k =
      called_means (callee_is.Function f) e k
      ∙ ap (λ (q : From State (Option CValue)). after (q (state m w) k)) (calls_function p l.is_inline f args ∙ ap (λ q. at_function (entry_in p l.is_inline) q args) is)

  pub no_function : (f : ℕ) → callee_in C (store_of l (state m w)) t ≡ Some (callee_is.Function f) → slice_get p.functions f ≡ None → Ends p ending.Stuck at m w w
  no_function f e is = record {
    same = stops_so Stuck (λ k. Stops Stuck (state m w)) (function_means f None e is) (λ k. refl);
    grows = as_before w;
  }

  pub inline_in_inline : (f : ℕ) (g : Function) → callee_in C (store_of l (state m w)) t ≡ Some (callee_is.Function f) → slice_get p.functions f ≡ Some g → g.is_inline ≡ true → l.is_inline ≡ true → Ends p ending.Stuck at m w w
  inline_in_inline f g e is i j = record {
    same = stops_so Stuck (λ k. entry_in p l.is_inline g args (state m w) k) (function_means f (Some g) e is) (inline_stuck p l.is_inline g args i j (state m w));
    grows = as_before w;
  }

  abbrev into : Function → Core
  into g = entered at x more (fitted_all g.params args) g.slots g.result g.is_inline g.body

  into_ready : (g : Function) → IsReadyCore at → IsIn g.slots g.body → IsReadyCore (into g)
  into_ready g h fits = record {
    here = wider g.slots _ g.body (long_enough (fitted_all g.params args) g.slots) fits;
    after = (h.here.0.0, h.here.1, h.after);
  }

  body_means : (g : Function) (i : Bool) (k : ℕ) → length args ≡ length g.params → i ≡ g.is_inline → after (enter (around p i) g args (state m w) k) ≡ means p (into g) (state m w) k
  body_means g i k e same =
      ap after (entered_body p i g args (g.slots - length (fitted_all g.params args)) (state m w) k e)
      ∙ ap (λ b. after (end_of g.result (flows_of (around p b) g.body (record { frame = start (fitted_all g.params args ++ replicate (g.slots - length (fitted_all g.params args)) nought); state = state m w }) k))) same

  pub call_steps : (f : ℕ) (g : Function) (held : Memory) → callee_in C (store_of l (state m w)) t ≡ Some (callee_is.Function f) → slice_get p.functions f ≡ Some g → g.is_inline ≡ false → IsReadyCore at → IsIn g.slots g.body → length args ≡ length g.params → Holds m held → goes.Steps p at m w (into g) held w
  call_steps f g held e is i h fits many holds = record {
    to = m;
    holds = holds;
    same = λ k. function_means f (Some g) e is (suc k)
        ∙ ap (λ (q : From State (Option CValue)). after (q (state m w) (suc k))) (enters_step p l.is_inline g args i)
        ∙ ap after (now_step p g args (state m w) k)
        ∙ body_means g false k many (sym i);
    spent = subst (HasStop Spent w) (sym (function_means f (Some g) e is 0 ∙ ap (λ (q : From State (Option CValue)). after (q (state m w) 0)) (enters_step p l.is_inline g args i))) (after_stop Spent);
    ready = into_ready g h fits;
    grows = as_before w;
  }

  pub call_steps_stuck : (f : ℕ) (g : Function) (held : Memory) → callee_in C (store_of l (state m w)) t ≡ Some (callee_is.Function f) → slice_get p.functions f ≡ Some g → g.is_inline ≡ false → IsReadyCore at → length args ≢ length g.params → Holds m held → goes.Steps p at m w (core no_way l ps) held w
  call_steps_stuck f g held e is i h many holds = record {
    to = m;
    holds = holds;
    same = λ k. function_means f (Some g) e is (suc k)
        ∙ ap (λ (q : From State (Option CValue)). after (q (state m w) (suc k))) (enters_step p l.is_inline g args i)
        ∙ ap after (now_step p g args (state m w) k ∙ not_entered p false g args (state m w) k many);
    spent = subst (HasStop Spent w) (sym (function_means f (Some g) e is 0 ∙ ap (λ (q : From State (Option CValue)). after (q (state m w) 0)) (enters_step p l.is_inline g args i))) (after_stop Spent);
    ready = record { here = tt; after = h.after };
    grows = as_before w;
  }

  inline_means : (f : ℕ) (g : Function) → callee_in C (store_of l (state m w)) t ≡ Some (callee_is.Function f) → slice_get p.functions f ≡ Some g → g.is_inline ≡ true → l.is_inline ≡ false → (k : ℕ) → means p at (state m w) k ≡ after (enter (around p true) g args (state m w) k)
  inline_means f g e is i j k = function_means f (Some g) e is k ∙ ap (λ (q : From State (Option CValue)). after (q (state m w) k)) (enters_inline p l.is_inline g args i j)

  pub inline_goes : (f : ℕ) (g : Function) (held : Memory) → callee_in C (store_of l (state m w)) t ≡ Some (callee_is.Function f) → slice_get p.functions f ≡ Some g → g.is_inline ≡ true → l.is_inline ≡ false → IsReadyCore at → IsIn g.slots g.body → length args ≡ length g.params → Holds m held → GoesFurther p at m w (into g) held w
  inline_goes f g held e is i j h fits many holds = record {
    to = m;
    holds = holds;
    same = λ k. inline_means f g e is i j k ∙ body_means g true k many (sym i);
    less =
        let a = among p.functions f g is in
        let b = ap (λ q. size (most_in p q) g.body) i in
        let d = ap (most_in p) j in
        omega (arith, a, b, d);
    ready = into_ready g h fits;
    grows = as_before w;
  }

  pub inline_stuck_goes : (f : ℕ) (g : Function) (held : Memory) → callee_in C (store_of l (state m w)) t ≡ Some (callee_is.Function f) → slice_get p.functions f ≡ Some g → g.is_inline ≡ true → l.is_inline ≡ false → IsReadyCore at → length args ≢ length g.params → Holds m held → GoesFurther p at m w (core no_way l ps) held w
  inline_stuck_goes f g held e is i j h many holds = record {
    to = m;
    holds = holds;
    same = λ k. inline_means f g e is i j k ∙ ap after (not_entered p true g args (state m w) k many);
    less = omega arith;
    ready = record { here = tt; after = h.after };
    grows = as_before w;
  }
