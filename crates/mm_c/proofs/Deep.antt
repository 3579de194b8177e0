-- The clock left is at most the clock given, and calls of more functions inside one another than the clock allows, and
-- more turns than it allows, change nothing.
use Rattle.std.specs.Prelude.{ℤ, pos, negsuc, Result, Ok, Err}
use Rattle.std.proofs.Common.{◌≡◌, ℕ, zero, suc, ◌≤◌, List, [], ◌∷◌, Option, Some, None, refl, ap, ◌∙◌, arith}
use Rattle.mm_base.specs.declared.num.Trap.{Trap}
use Rattle.mm_base.specs.World.{World, call_builtin}
use Rattle.mm_meaning.specs.Run.{Run, Gives, Stops, ◌>>=◌, then}
use Rattle.mm_meaning.specs.Same.{Leaves, Same}
use Rattle.mm_meaning.proofs.Sames.{leaves_less, same_then, same_pure, same_stop, same_if, same_step, same_less, within_same}
use Rattle.mm_c.specs.declared.value.CValue.{CValue}
use Rattle.mm_c.specs.declared.value.CValue.TheVariants.{Int, Unsigned, Long, Null, At}
use Rattle.mm_c.specs.declared.value.CCell.{CCell}
use Rattle.mm_c.specs.declared.tree.CKind.{CKind}
use Rattle.mm_c.specs.declared.tree.CAtom.{CAtom}
use Rattle.mm_c.specs.declared.tree.CAddress.{CAddress}
use Rattle.mm_c.specs.declared.tree.CCall.{CCall}
use Rattle.mm_c.specs.declared.tree.CCall.TheVariants.{Named, Element}
use Rattle.mm_c.specs.declared.tree.CExpr.{CExpr}
use Rattle.mm_c.specs.declared.tree.CExpr.TheVariants.{Atom, Binary, ToInt, ToUnsigned, Load, Index, Call}
use Rattle.mm_c.specs.declared.tree.CLocal.{CLocal}
use Rattle.mm_c.specs.Tree.{Stmt, assign, store, run, if_only, if_else, forever, break, continue, leave, return, Block, block, Code, done, do_then, Function, Program}
use Rattle.mm_c.specs.Memory as memory
use Rattle.mm_c.specs.WellFormed.{is_inline}
use Rattle.mm_c.specs.CMeaning.{Stop, Trapped, Spent, Stuck, State, Names, Store, From, or_stuck, Around, value_in, target_in, at_index, long_of, index_of, as_index, reads, set_name, zero_all, outside, stored, store_at, values_of, atoms_in, Flow, Next, Broke, Continued, Returned, unless_left, next_turn, if_zero, turns, called, call_of, gives, right_of, flow_of, flow_in, flows_of, returned_as, left_by, end_of, body_of, enter, given, with_kinds, no_names, no_kinds, answered, ask, trap, allocate, ints_in, Given, asks, traps, allocates, given_call, Callee, prelude, defined, callee_of, Steps, plain_callee, plain_calls, any_callee, all_calls, around_of, around_all, steps_of, now}

module _ (S A : Type 0) where
  pub same_or_stuck : {c : ℕ} (o : Option A) → Same {S = S} c (or_stuck o) (or_stuck o)
  same_or_stuck None = same_stop Stuck
  same_or_stuck (Some a) = same_pure a

module _ {A : Type 0} where
  same_outside : {c : ℕ} {m m' : From State A} → Same c m m' → Same c (outside m) (outside m')
  same_outside {m} {m'} h = record { by = λ s k le. let r = h.by s.state k le in within_same (λ t. record { names = s.names; kinds = s.kinds; state = t }) k (m s.state k) (m' s.state k) r.0 r.1 }

same_reads : {c : ℕ} (a : CAtom) → Same c (reads a) (reads a)
same_reads a = record { by = λ s k le. (refl, omega arith) }

same_set : {c : ℕ} (x : List ℕ) (v : CValue) → Same c (set_name x v) (set_name x v)
same_set x v = record { by = λ s k le. (refl, omega arith) }

same_zero : {c : ℕ} (xs : List CLocal) → Same c (zero_all xs) (zero_all xs)
same_zero xs = record { by = λ s k le. (refl, omega arith) }

same_stored : {c : ℕ} (o : Option (List memory.Block)) → Same c (stored o) (stored o)
same_stored None = same_stop Stuck
same_stored (Some blocks) = record { by = λ s k le. (refl, omega arith) }

same_store : {c : ℕ} (d : CCell) (p : CAddress) (a : CAtom) → Same c (store_at d p a) (store_at d p a)
same_store d p a = record { by = λ s k le. (same_stored _).by s k le }

-- calls that do the same up to the clock c, and the same arrays
pub record SameAround (c : ℕ) (m m' : Around) : Type 0 where
  pub call : (f : List ℕ) (vs : List CValue) → Same c (m.call f vs) (m'.call f vs)
  pub functions : m.function_at ≡ m'.function_at
  pub numbers : m.number_at ≡ m'.number_at

unless_same : {c : ℕ} (flow : Flow) {m m' : From Store Flow} → Same c m m' → Same c (unless_left flow m) (unless_left flow m')
unless_same Next h = h
unless_same Broke h = same_pure _
unless_same Continued h = same_pure _
unless_same (Returned v) h = same_pure _

next_same : {c : ℕ} (flow : Flow) {m m' : From Store Flow} → Same c m m' → Same c (next_turn flow m) (next_turn flow m')
next_same Next h = h
next_same Continued h = h
next_same Broke h = same_pure _
next_same (Returned v) h = same_pure _

zero_same : {c : ℕ} (v : CValue) {m m' n n' : From Store Flow} → Same c m m' → Same c n n' → Same c (if_zero v m n) (if_zero v m' n')
zero_same (Int (pos zero)) h h' = h
zero_same (Int (pos (suc n))) h h' = h'
zero_same (Int (negsuc n)) h h' = h'
zero_same (Unsigned n) h h' = same_stop Stuck
zero_same (Long z) h h' = same_stop Stuck
zero_same Null h h' = same_stop Stuck
zero_same (At b o) h h' = same_stop Stuck

turns_empty : (n : ℕ) (turn : From Store Flow) (s : Store) → turns n turn s 0 ≡ Stops Spent s
turns_empty zero turn s = refl
turns_empty (suc n) turn s = refl

-- as many turns as the clock allows, or more
pub turns_same : (c n m : ℕ) {turn turn' : From Store Flow} → c ≤ n → c ≤ m → Same c turn turn' → Same c (turns n turn) (turns m turn')
turns_same zero n m {turn} {turn'} le le' h = record { by = λ s k low. let e : k ≡ 0 = omega arith in rw e (rw (turns_empty n turn s, turns_empty m turn' s) (refl, tt)) }
turns_same (suc c) zero m le le' h = absurd (let x : ⊥ = omega arith in x)
turns_same (suc c) (suc n) zero le le' h = absurd (let x : ⊥ = omega arith in x)
turns_same (suc c) (suc n) (suc m) {turn} {turn'} le le' h =
    let less : Same c turn turn' = same_less (omega arith) h in
    same_step {m = turn >>= (λ flow. next_turn flow (turns n turn))} {n = turn' >>= (λ flow. next_turn flow (turns m turn'))} (same_then less (λ flow. next_same flow (turns_same c n m (omega arith) (omega arith) less)))

module _ (c : ℕ) (m m' : Around) (same : SameAround c m m') where
  value_same : (s : Store) (r : CExpr) → value_in m s r ≡ value_in m' s r
  value_same s (Atom a) = refl
  value_same s (Binary a o b) = refl
  value_same s (ToInt x) = refl
  value_same s (ToUnsigned x) = refl
  value_same s (Load d p) = refl
  value_same s (Index a i) = ap (λ f. long_of (at_index (f a) (index_of s i))) same.numbers
  value_same s (Call d) = refl

  target_same : (s : Store) (d : CCall) → target_in m s d ≡ target_in m' s d
  target_same s (Named f atoms) = refl
  target_same s (Element a x atoms) = ap (λ f. at_index (f a) (as_index (s.names x))) same.functions

  called_same : (o : Option (List ℕ)) (vs : List CValue) → Same c (called m o vs) (called m' o vs)
  called_same None vs = same_stop Stuck
  called_same (Some f) vs = same.call f vs

  call_same : (d : CCall) → Same c (call_of m d) (call_of m' d)
  call_same d = record {
    by = λ s k le.
        let r = (same_outside (called_same (target_in m s d) (values_of s.names (atoms_in d)))).by s k le in
        (r.0 ∙ ap (λ o. outside (called m' o (values_of s.names (atoms_in d))) s k) (target_same s d), r.1);
  }

  gives_same : (r : CExpr) → Same c (gives m r) (gives m' r)
  gives_same r = record { by = λ s k le. let q = (same_or_stuck Store CValue (value_in m s r)).by s k le in (q.0 ∙ ap (λ o. or_stuck o s k) (value_same s r), q.1) }

  right_same : (r : CExpr) → Same c (right_of m r) (right_of m' r)
  right_same (Call d) = same_then (call_same d) (λ r. same_or_stuck Store CValue r)
  right_same (Atom a) = gives_same (Atom a)
  right_same (Binary a o b) = gives_same (Binary a o b)
  right_same (ToInt x) = gives_same (ToInt x)
  right_same (ToUnsigned x) = gives_same (ToUnsigned x)
  right_same (Load d p) = gives_same (Load d p)
  right_same (Index a i) = gives_same (Index a i)

  mutual
    flow_same : (st : Stmt) → Same c (flow_of m st) (flow_of m' st)
    flow_same (assign x r) = same_then (right_same r) (λ v. same_then (same_set x v) (λ u. same_pure Next))
    flow_same (store d p a) = same_then (same_store d p a) (λ u. same_pure Next)
    flow_same (run d) = same_then (call_same d) (λ r. same_pure Next)
    flow_same (if_only a b) = same_then (same_reads a) (λ v. zero_same v (same_pure Next) (block_same b))
    flow_same (if_else a b d) = same_then (same_reads a) (λ v. zero_same v (block_same d) (block_same b))
    flow_same (forever b) = record { by = λ s k le. (turns_same k k k (omega arith) (omega arith) (same_less le (block_same b))).by s k (omega arith) }
    flow_same break = same_pure _
    flow_same continue = same_pure _
    flow_same leave = same_pure _
    flow_same (return a) = same_then (same_reads a) (λ v. same_pure (Returned (Some v)))

    pub block_same : (b : Block) → Same c (flow_in m b) (flow_in m' b)
    block_same (block xs code) = same_then (same_zero xs) (λ u. flows_same code)

    flows_same : (sts : Code) → Same c (flows_of m sts) (flows_of m' sts)
    flows_same done = same_pure _
    flows_same (do_then st sts) = same_then (flow_same st) (λ flow. unless_same flow (flows_same sts))

-- ---- functions

same_returned : {c : ℕ} (r : Option CKind) (v : Option CValue) → Same c (returned_as r v) (returned_as r v)
same_returned None None = same_pure _
same_returned None (Some v) = same_stop Stuck
same_returned (Some r) None = same_stop Stuck
same_returned (Some r) (Some v) = same_pure _

pub same_left : {c : ℕ} (r : Option CKind) (flow : Flow) → Same c (left_by r flow) (left_by r flow)
same_left r Next = same_returned r None
same_left r Broke = same_stop Stuck
same_left r Continued = same_stop Stuck
same_left r (Returned v) = same_returned r v

end_same : (r : Option CKind) (k : ℕ) (x y : Run Stop Store Flow) → x ≡ y → Leaves k x → (end_of r x ≡ end_of r y) × Leaves k (end_of r x)
end_same r k (Gives flow s k1) y e lv = (ap (end_of r) e, leaves_less k1 k (left_by r flow s.state k1) lv ((same_left {c = k1} r flow).by s.state k1 (omega arith)).1)
end_same r k (Stops t s) y e lv = (ap (end_of r) e, tt)

body_same : (c : ℕ) (m m' : Around) (f : Function) (o : Option Names) → SameAround c m m' → Same c (body_of m f o) (body_of m' f o)
body_same c m m' f None h = same_stop Stuck
body_same c m m' f (Some names) h = record {
  by = λ w k le.
      let r = (block_same c m m' h f.body).by (record { names = names; kinds = with_kinds f.params no_kinds; state = w }) k le in
      end_same f.result k (flow_in m f.body (record { names = names; kinds = with_kinds f.params no_kinds; state = w }) k) (flow_in m' f.body (record { names = names; kinds = with_kinds f.params no_kinds; state = w }) k) r.0 r.1;
}

pub enter_same : (c : ℕ) (m m' : Around) (f : Function) (vs : List CValue) → SameAround c m m' → Same c (enter m f vs) (enter m' f vs)
enter_same c m m' f vs h = body_same c m m' f (given f.params vs no_names) h

-- ---- the functions of the prelude

answered_leaves : (r : Result (Option ℤ × World) Trap) (s : State) (k : ℕ) → Leaves k (answered r s k)
answered_leaves (Ok r) s k = omega arith
answered_leaves (Err t) s k = tt

same_trap : {c : ℕ} (zs : Option (List ℤ)) → Same c (trap zs) (trap zs)
same_trap (Some (pos k ∷ [])) = same_if _ (same_stop (Trapped k)) (same_stop Stuck)
same_trap _ = same_stop Stuck

same_allocate : {c : ℕ} (vs : List CValue) → Same c (allocate vs) (allocate vs)
same_allocate (Unsigned (suc n) ∷ []) = record { by = λ s k le. (refl, omega arith) }
same_allocate _ = same_stop Stuck

pub same_ask : {c : ℕ} (g : Given) (vs : List CValue) → Same c (given_call g vs) (given_call g vs)
same_ask (asks b) vs = go (ints_in vs)
  where
    go : {c : ℕ} (o : Option (List ℤ)) → Same c (ask b o) (ask b o)
    go None = same_stop Stuck
    go (Some zs) = record { by = λ s k le. (refl, answered_leaves (call_builtin b zs s.world) s k) }
same_ask traps vs = same_trap (ints_in vs)
same_ask allocates vs = same_allocate vs

-- ---- programs

module _ (p : Program) (c : ℕ) (x y : Steps) (same : (f : Function) (vs : List CValue) → Same c (x f vs) (y f vs)) where
  plain_same : (o : Option Callee) (vs : List CValue) → Same c (plain_callee x o vs) (plain_callee y o vs)
  plain_same None vs = same_stop Stuck
  plain_same (Some (prelude g)) vs = same_ask g vs
  plain_same (Some (defined f)) vs = same_if (is_inline f.linkage) (same_stop Stuck) (same f vs)

  pub plain_around : SameAround c (around_of p (plain_calls p x)) (around_of p (plain_calls p y))
  plain_around = record { call = λ f vs. plain_same (callee_of p f) vs; functions = refl; numbers = refl }

  any_same : (o : Option Callee) (vs : List CValue) → Same c (any_callee p x o vs) (any_callee p y o vs)
  any_same None vs = same_stop Stuck
  any_same (Some (prelude g)) vs = same_ask g vs
  any_same (Some (defined f)) vs = same_if (is_inline f.linkage) (enter_same c (around_of p (plain_calls p x)) (around_of p (plain_calls p y)) f vs plain_around) (same f vs)

  pub all_around : SameAround c (around_all p x) (around_all p y)
  all_around = record { call = λ f vs. any_same (callee_of p f) vs; functions = refl; numbers = refl }

steps_empty : (p : Program) (n : ℕ) (f : Function) (vs : List CValue) (w : State) → steps_of p n f vs w 0 ≡ Stops Spent w
steps_empty p zero f vs w = refl
steps_empty p (suc n) f vs w = refl

module _ (p : Program) where
  -- any depth that is not below the clock gives the same run
  pub deep_enough : (c n m : ℕ) (f : Function) (vs : List CValue) → c ≤ n → c ≤ m → Same c (steps_of p n f vs) (steps_of p m f vs)
  deep_enough zero n m f vs le le' = record { by = λ w k low. let e : k ≡ 0 = omega arith in rw e (rw (steps_empty p n f vs w, steps_empty p m f vs w) (refl, tt)) }
  deep_enough (suc c) zero m f vs le le' = absurd (let x : ⊥ = omega arith in x)
  deep_enough (suc c) (suc n) zero f vs le le' = absurd (let x : ⊥ = omega arith in x)
  deep_enough (suc c) (suc n) (suc m) f vs le le' =
      same_step {m = enter (around_all p (steps_of p n)) f vs} {n = enter (around_all p (steps_of p m)) f vs}
      (enter_same c (around_all p (steps_of p n)) (around_all p (steps_of p m)) f vs (all_around p c (steps_of p n) (steps_of p m) (λ g ws. deep_enough c n m g ws (omega arith) (omega arith))))

  now_same : (c n : ℕ) (f : Function) (vs : List CValue) → c ≤ n → Same c (steps_of p n f vs) (now p f vs)
  now_same c n f vs le = record { by = λ w k low. (deep_enough k n k f vs (omega arith) (omega arith)).by w k (omega arith) }

  pub now_itself : (c : ℕ) (f : Function) (vs : List CValue) → Same c (now p f vs) (now p f vs)
  now_itself c f vs = record { by = λ w k low. (deep_enough k k k f vs (omega arith) (omega arith)).by w k (omega arith) }

  -- a call is a step and the body
  pub now_step : (f : Function) (vs : List CValue) (w : State) (k : ℕ) → now p f vs w (suc k) ≡ enter (around_all p (now p)) f vs w k
  now_step f vs w k = ((enter_same k (around_all p (steps_of p k)) (around_all p (now p)) f vs (all_around p k (steps_of p k) (now p) (λ g ws. now_same k k g ws (omega arith)))).by w k (omega arith)).0

  -- the run of `main` is that of calls as deep as the clock allows
  pub run_now : (f : List ℕ) (vs : List CValue) (w : State) (n : ℕ) → all_calls p (steps_of p n) f vs w n ≡ all_calls p (now p) f vs w n
  run_now f vs w n = (((all_around p n (steps_of p n) (now p) (λ g ws. now_same n n g ws (omega arith))).call f vs).by w n (omega arith)).0

-- what is around a function, and does the same at each clock
pub record Steady (m : Around) : Type 0 where
  pub itself : (c : ℕ) → SameAround c m m

pub steady_all : (p : Program) → Steady (around_all p (now p))
steady_all p = record { itself = λ c. all_around p c (now p) (now p) (now_itself p c) }

pub steady_plain : (p : Program) → Steady (around_of p (plain_calls p (now p)))
steady_plain p = record { itself = λ c. plain_around p c (now p) (now p) (now_itself p c) }

-- a loop is a step, the block, and the loop again
pub forever_step : (m : Around) → Steady m → (b : Block) (s : Store) (k : ℕ) → flow_of m (forever b) s (suc k) ≡ (then) (flow_in m b s k) (λ flow. next_turn flow (flow_of m (forever b)))
forever_step m steady b s k =
    let inner = λ (c : ℕ). block_same c m m (steady.itself c) b in
    let again : (flow : Flow) → Same k (next_turn flow (turns k (flow_in m b))) (next_turn flow (flow_of m (forever b))) = λ flow. next_same flow (record { by = λ s1 k1 le. (turns_same k1 k k1 (omega arith) (omega arith) (inner k1)).by s1 k1 (omega arith) }) in
    ((same_then {m = flow_in m b} {n = flow_in m b} (inner k) again).by s k (omega arith)).0
