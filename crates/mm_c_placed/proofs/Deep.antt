-- The clock left is at most the clock given, and calls of more functions inside one another than the clock allows, and
-- more turns than it allows, change nothing.
use Rattle.std.specs.Prelude.{pos, negsuc, Bool, true, false, map, slice_get}
use Rattle.std.proofs.Common.{◌≡◌, ℕ, zero, suc, ◌≤◌, List, [], Option, Some, None, refl, ap, ◌∙◌, arith}
use Rattle.mm_meaning.specs.Run.{Run, Gives, Stops, ◌>>=◌, then}
use Rattle.mm_meaning.specs.Same.{Leaves, Same}
use Rattle.mm_meaning.proofs.Sames.{leaves_less, same_then, same_pure, same_stop, same_if, same_step, same_less, within_same}
use Rattle.mm_c.specs.declared.value.CValue.{CValue}
use Rattle.mm_c.specs.declared.value.CValue.TheVariants.{Int, Unsigned, Long, Null, At}
use Rattle.mm_c.specs.declared.value.CCell.{CCell}
use Rattle.mm_c.specs.declared.tree.CKind.{CKind}
use Rattle.mm_c.specs.Memory as memory
use Rattle.mm_c.specs.CMeaning.{Stop, Spent, Stuck, State, From, or_stuck, at_index, long_of, as_index, Flow, Next, Broke, Continued, Returned, left_by, asks, traps, allocates}
use Rattle.mm_c.proofs.Deep.{same_or_stuck, same_left, same_ask}
use Rattle.mm_c_placed.specs.declared.tree.Operand.{Operand}
use Rattle.mm_c_placed.specs.declared.tree.Address.{Address}
use Rattle.mm_c_placed.specs.declared.tree.Right.{Right}
use Rattle.mm_c_placed.specs.declared.tree.Right.TheVariants.{Copy, Binary, ToInt, ToUnsigned, Load, Index}
use Rattle.mm_c_placed.specs.declared.tree.Callee.{Callee}
use Rattle.mm_c_placed.specs.declared.tree.Callee.TheVariants as callee_is
use Rattle.mm_c_placed.specs.declared.tree.Target.{Target}
use Rattle.mm_c_placed.specs.declared.tree.Target.TheVariants.{Named, Element}
use Rattle.mm_c_placed.specs.declared.tree.Local.{Local}
use Rattle.mm_c_placed.specs.Tree.{Stmt, locals, assign, store, run, if_else, forever, break, continue, leave, return, Code, done, do_then, Function, Program}
use Rattle.mm_c_placed.specs.Meaning.{Store, start, operand_of, Around, value_in, callee_in, index_of, reads, set_place, zero_all, receive, outside, stored, store_at, unless_left, next_turn, if_zero, turns, called, call_of, gives, flow_of, flows_of, end_of, given, body_of, enter, Steps, at_function, calls_by, plain_entry, plain_calls, any_entry, all_calls, around_of, around_all, around_in, steps_of, now, run_of}

module _ {A : Type 0} where
  same_outside : {c : ℕ} {m m' : From State A} → Same c m m' → Same c (outside m) (outside m')
  same_outside {m} {m'} h = record { by = λ s k le. let r = h.by s.state k le in within_same (λ t. record { frame = s.frame; state = t }) k (m s.state k) (m' s.state k) r.0 r.1 }

same_reads : {c : ℕ} (a : Operand) → Same c (reads a) (reads a)
same_reads a = record { by = λ s k le. (refl, omega arith) }

same_set : {c : ℕ} (x : Local) (v : CValue) → Same c (set_place x v) (set_place x v)
same_set x v = record { by = λ s k le. (refl, omega arith) }

same_zero : {c : ℕ} (xs : List Local) → Same c (zero_all xs) (zero_all xs)
same_zero xs = record { by = λ s k le. (refl, omega arith) }

same_receive : {c : ℕ} (x : Option Local) (r : Option CValue) → Same c (receive x r) (receive x r)
same_receive None r = same_pure tt
same_receive (Some x) r = same_then (same_or_stuck Store CValue r) (λ v. same_set x v)

same_stored : {c : ℕ} (o : Option (List memory.Block)) → Same c (stored o) (stored o)
same_stored None = same_stop Stuck
same_stored (Some blocks) = record { by = λ s k le. (refl, omega arith) }

same_store : {c : ℕ} (d : CCell) (p : Address) (a : Operand) → Same c (store_at d p a) (store_at d p a)
same_store d p a = record { by = λ s k le. (same_stored _).by s k le }

-- calls that do the same up to the clock c, and the same arrays
pub record SameAround (c : ℕ) (m m' : Around) : Type 0 where
  pub call : (f : Callee) (vs : List CValue) → Same c (m.call f vs) (m'.call f vs)
  pub functions : m.function_at ≡ m'.function_at
  pub numbers : m.number_at ≡ m'.number_at

unless_same : {c : ℕ} (flow : Flow) {m m' : From Store Flow} → Same c m m' → Same c (unless_left flow m) (unless_left flow m')
unless_same Next h = h
unless_same Broke h = same_pure _
unless_same Continued h = same_pure _
unless_same (Returned v) h = same_pure _

next_same : {c : ℕ} (flow : Flow) {m m' : From Store Flow} → Same c m m' → Same c (next_turn flow m) (next_turn flow m')
next_same Next h = h
next_same Continued h = h
next_same Broke h = same_pure _
next_same (Returned v) h = same_pure _

zero_same : {c : ℕ} (v : CValue) {m m' n n' : From Store Flow} → Same c m m' → Same c n n' → Same c (if_zero v m n) (if_zero v m' n')
zero_same (Int (pos zero)) h h' = h
zero_same (Int (pos (suc n))) h h' = h'
zero_same (Int (negsuc n)) h h' = h'
zero_same (Unsigned n) h h' = same_stop Stuck
zero_same (Long z) h h' = same_stop Stuck
zero_same Null h h' = same_stop Stuck
zero_same (At b o) h h' = same_stop Stuck

turns_empty : (n : ℕ) (turn : From Store Flow) (s : Store) → turns n turn s 0 ≡ Stops Spent s
turns_empty zero turn s = refl
turns_empty (suc n) turn s = refl

-- as many turns as the clock allows, or more
pub turns_same : (c n m : ℕ) {turn turn' : From Store Flow} → c ≤ n → c ≤ m → Same c turn turn' → Same c (turns n turn) (turns m turn')
turns_same zero n m {turn} {turn'} le le' h = record { by = λ s k low. let e : k ≡ 0 = omega arith in rw e (rw (turns_empty n turn s, turns_empty m turn' s) (refl, tt)) }
turns_same (suc c) zero m le le' h = absurd (let x : ⊥ = omega arith in x)
turns_same (suc c) (suc n) zero le le' h = absurd (let x : ⊥ = omega arith in x)
turns_same (suc c) (suc n) (suc m) {turn} {turn'} le le' h =
    let less : Same c turn turn' = same_less (omega arith) h in
    same_step {m = turn >>= (λ flow. next_turn flow (turns n turn))} {n = turn' >>= (λ flow. next_turn flow (turns m turn'))} (same_then less (λ flow. next_same flow (turns_same c n m (omega arith) (omega arith) less)))

module _ (c : ℕ) (m m' : Around) (same : SameAround c m m') where
  value_same : (s : Store) (r : Right) → value_in m s r ≡ value_in m' s r
  value_same s (Copy a) = refl
  value_same s (Binary a o b) = refl
  value_same s (ToInt x) = refl
  value_same s (ToUnsigned x) = refl
  value_same s (Load d p) = refl
  value_same s (Index a i) = ap (λ f. long_of (at_index (f a) (index_of s i))) same.numbers

  callee_same : (s : Store) (d : Target) → callee_in m s d ≡ callee_in m' s d
  callee_same s (Named f) = refl
  callee_same s (Element a x) = ap (λ f. at_index (f a) (as_index (s.frame x))) same.functions

  called_same : (o : Option Callee) (vs : List CValue) → Same c (called m o vs) (called m' o vs)
  called_same None vs = same_stop Stuck
  called_same (Some f) vs = same.call f vs

  call_same : (d : Target) (as_ : List Operand) → Same c (call_of m d as_) (call_of m' d as_)
  call_same d as_ = record {
    by = λ s k le.
        let r = (same_outside (called_same (callee_in m s d) (map (operand_of s.frame) as_))).by s k le in
        (r.0 ∙ ap (λ o. outside (called m' o (map (operand_of s.frame) as_)) s k) (callee_same s d), r.1);
  }

  gives_same : (r : Right) → Same c (gives m r) (gives m' r)
  gives_same r = record { by = λ s k le. let q = (same_or_stuck Store CValue (value_in m s r)).by s k le in (q.0 ∙ ap (λ o. or_stuck o s k) (value_same s r), q.1) }

  mutual
    flow_same : (st : Stmt) → Same c (flow_of m st) (flow_of m' st)
    flow_same (locals xs) = same_then (same_zero xs) (λ u. same_pure Next)
    flow_same (assign x r) = same_then (gives_same r) (λ v. same_then (same_set x v) (λ u. same_pure Next))
    flow_same (store d p a) = same_then (same_store d p a) (λ u. same_pure Next)
    flow_same (run x d as_) = same_then (call_same d as_) (λ r. same_then (same_receive x r) (λ u. same_pure Next))
    flow_same (if_else a b d) = same_then (same_reads a) (λ v. zero_same v (flows_same d) (flows_same b))
    flow_same (forever b) = record { by = λ s k le. (turns_same k k k (omega arith) (omega arith) (same_less le (flows_same b))).by s k (omega arith) }
    flow_same break = same_pure _
    flow_same continue = same_pure _
    flow_same leave = same_pure _
    flow_same (return a) = same_then (same_reads a) (λ v. same_pure (Returned (Some v)))

    pub flows_same : (sts : Code) → Same c (flows_of m sts) (flows_of m' sts)
    flows_same done = same_pure _
    flows_same (do_then st sts) = same_then (flow_same st) (λ flow. unless_same flow (flows_same sts))

-- ---- functions

end_same : (r : Option CKind) (k : ℕ) (x y : Run Stop Store Flow) → x ≡ y → Leaves k x → (end_of r x ≡ end_of r y) × Leaves k (end_of r x)
end_same r k (Gives flow s k1) y e lv = (ap (end_of r) e, leaves_less k1 k (left_by r flow s.state k1) lv ((same_left {c = k1} r flow).by s.state k1 (omega arith)).1)
end_same r k (Stops t s) y e lv = (ap (end_of r) e, tt)

body_same : (c : ℕ) (m m' : Around) (f : Function) (o : Option (List CValue)) → SameAround c m m' → Same c (body_of m f o) (body_of m' f o)
body_same c m m' f None h = same_stop Stuck
body_same c m m' f (Some vs) h = record {
  by = λ w k le.
      let r = (flows_same c m m' h f.body).by (record { frame = start vs; state = w }) k le in
      end_same f.result k (flows_of m f.body (record { frame = start vs; state = w }) k) (flows_of m' f.body (record { frame = start vs; state = w }) k) r.0 r.1;
}

pub enter_same : (c : ℕ) (m m' : Around) (f : Function) (vs : List CValue) → SameAround c m m' → Same c (enter m f vs) (enter m' f vs)
enter_same c m m' f vs h = body_same c m m' f (given f.params vs) h

-- ---- programs

function_same : {c : ℕ} (x y : Steps) (o : Option Function) (vs : List CValue) → ((f : Function) → Same c (x f vs) (y f vs)) → Same c (at_function x o vs) (at_function y o vs)
function_same x y None vs h = same_stop Stuck
function_same x y (Some f) vs h = h f

by_same : (p : Program) (c : ℕ) (x y : Steps) → ((f : Function) (vs : List CValue) → Same c (x f vs) (y f vs)) → (f : Callee) (vs : List CValue) → Same c (calls_by p x f vs) (calls_by p y f vs)
by_same p c x y h (callee_is.Asks b) vs = same_ask (asks b) vs
by_same p c x y h callee_is.Trap vs = same_ask traps vs
by_same p c x y h callee_is.New vs = same_ask allocates vs
by_same p c x y h (callee_is.Function f) vs = function_same x y (slice_get p.functions f) vs (λ g. h g vs)

module _ (p : Program) (c : ℕ) (x y : Steps) (same : (f : Function) (vs : List CValue) → Same c (x f vs) (y f vs)) where
  plain_same : (f : Function) (vs : List CValue) → Same c (plain_entry x f vs) (plain_entry y f vs)
  plain_same f vs = same_if f.is_inline (same_stop Stuck) (same f vs)

  pub plain_around : SameAround c (around_of p (plain_calls p x)) (around_of p (plain_calls p y))
  plain_around = record { call = by_same p c (plain_entry x) (plain_entry y) plain_same; functions = refl; numbers = refl }

  any_same : (f : Function) (vs : List CValue) → Same c (any_entry p x f vs) (any_entry p y f vs)
  any_same f vs = same_if f.is_inline (enter_same c (around_of p (plain_calls p x)) (around_of p (plain_calls p y)) f vs plain_around) (same f vs)

  pub all_around : SameAround c (around_all p x) (around_all p y)
  all_around = record { call = by_same p c (any_entry p x) (any_entry p y) any_same; functions = refl; numbers = refl }

steps_empty : (p : Program) (n : ℕ) (f : Function) (vs : List CValue) (w : State) → steps_of p n f vs w 0 ≡ Stops Spent w
steps_empty p zero f vs w = refl
steps_empty p (suc n) f vs w = refl

module _ (p : Program) where
  -- any depth that is not below the clock gives the same run
  pub deep_enough : (c n m : ℕ) (f : Function) (vs : List CValue) → c ≤ n → c ≤ m → Same c (steps_of p n f vs) (steps_of p m f vs)
  deep_enough zero n m f vs le le' = record { by = λ w k low. let e : k ≡ 0 = omega arith in rw e (rw (steps_empty p n f vs w, steps_empty p m f vs w) (refl, tt)) }
  deep_enough (suc c) zero m f vs le le' = absurd (let x : ⊥ = omega arith in x)
  deep_enough (suc c) (suc n) zero f vs le le' = absurd (let x : ⊥ = omega arith in x)
  deep_enough (suc c) (suc n) (suc m) f vs le le' =
      same_step {m = enter (around_all p (steps_of p n)) f vs} {n = enter (around_all p (steps_of p m)) f vs}
      (enter_same c (around_all p (steps_of p n)) (around_all p (steps_of p m)) f vs (all_around p c (steps_of p n) (steps_of p m) (λ g ws. deep_enough c n m g ws (omega arith) (omega arith))))

  now_same : (c n : ℕ) (f : Function) (vs : List CValue) → c ≤ n → Same c (steps_of p n f vs) (now p f vs)
  now_same c n f vs le = record { by = λ w k low. (deep_enough k n k f vs (omega arith) (omega arith)).by w k (omega arith) }

  pub now_itself : (c : ℕ) (f : Function) (vs : List CValue) → Same c (now p f vs) (now p f vs)
  now_itself c f vs = record { by = λ w k low. (deep_enough k k k f vs (omega arith) (omega arith)).by w k (omega arith) }

  -- a call is a step and the body
  pub now_step : (f : Function) (vs : List CValue) (w : State) (k : ℕ) → now p f vs w (suc k) ≡ enter (around_all p (now p)) f vs w k
  now_step f vs w k = ((enter_same k (around_all p (steps_of p k)) (around_all p (now p)) f vs (all_around p k (steps_of p k) (now p) (λ g ws. now_same k k g ws (omega arith)))).by w k (omega arith)).0

  -- the run of `main` is that of calls as deep as the clock allows
  pub run_now : (w : State) (n : ℕ) → run_of p n w ≡ all_calls p (now p) (callee_is.Function p.main) [] w n
  run_now w n = (((all_around p n (steps_of p n) (now p) (λ g ws. now_same n n g ws (omega arith))).call (callee_is.Function p.main) []).by w n (omega arith)).0

-- what is around a function, and does the same at each clock
pub record Steady (m : Around) : Type 0 where
  pub itself : (c : ℕ) → SameAround c m m

pub steady_in : (p : Program) (is_inline : Bool) → Steady (around_in p (now p) is_inline)
steady_in p true = record { itself = λ c. plain_around p c (now p) (now p) (now_itself p c) }
steady_in p false = record { itself = λ c. all_around p c (now p) (now p) (now_itself p c) }

-- a loop is a step, the block, and the loop again
pub forever_step : (m : Around) → Steady m → (b : Code) (s : Store) (k : ℕ) → flow_of m (forever b) s (suc k) ≡ (then) (flows_of m b s k) (λ flow. next_turn flow (flow_of m (forever b)))
forever_step m steady b s k =
    let inner = λ (c : ℕ). flows_same c m m (steady.itself c) b in
    let again : (flow : Flow) → Same k (next_turn flow (turns k (flows_of m b))) (next_turn flow (flow_of m (forever b))) = λ flow. next_same flow (record { by = λ s1 k1 le. (turns_same k1 k k1 (omega arith) (omega arith) (inner k1)).by s1 k1 (omega arith) }) in
    ((same_then {m = flows_of m b} {n = flows_of m b} (inner k) again).by s k (omega arith)).0
