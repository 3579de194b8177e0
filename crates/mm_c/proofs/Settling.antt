-- What one step more in the bound changes of a run of C.
use Rattle.std.specs.Prelude.{Bool, true, false, if◌then◌else◌, ℤ, pos, negsuc, Result, Ok, Err, codes, slice_get}
use Rattle.std.proofs.Common.{◌≡◌, ℕ, zero, suc, List, [], ◌∷◌, Option, Some, None, inl, inr, refl, ◌∙◌}
use Rattle.mm_base.specs.declared.num.Trap.{Trap}
use Rattle.mm_base.specs.declared.world.Builtin.{Builtin}
use Rattle.mm_base.specs.declared.world.Builtin.TheVariants.{Put, Get, More}
use Rattle.mm_base.specs.Num.{code_of}
use Rattle.mm_base.specs.World.{World, got, call_builtin}
use Rattle.mm_meaning.specs.Run.{Run, Gives, Stops, ◌>>=◌, pure, stop, step, within}
use Rattle.mm_meaning.specs.Same.{IsFront}
use Rattle.mm_meaning.proofs.Sames.{front_itself, front_through}
use Rattle.mm_meaning.specs.Later.{state_of, Later, both_give, both_stop, goes_on, Grows, Adds, IsOrder}
use Rattle.mm_meaning.proofs.Laters.{grows_then, adds_then, grows_pure, adds_pure, grows_stop, adds_stop, grows_step, adds_step}
use Rattle.mm_c.specs.declared.value.CValue.{CValue}
use Rattle.mm_c.specs.declared.value.CValue.TheVariants.{Int, Unsigned, Long, Null, At}
use Rattle.mm_c.specs.declared.tree.CKind.{CKind}
use Rattle.mm_c.specs.declared.tree.CAtom.{CAtom}
use Rattle.mm_c.specs.declared.tree.CCall.{CCall}
use Rattle.mm_c.specs.declared.tree.CExpr.{CExpr}
use Rattle.mm_c.specs.declared.tree.CExpr.TheVariants.{Atom, Binary, ToInt, ToUnsigned, Load, Index, Call}
use Rattle.mm_c.specs.declared.tree.CLocal.{CLocal}
use Rattle.mm_c.specs.Tree.{Stmt, assign, store, run, if_only, if_else, forever, break, continue, leave, return, Block, block, Code, done, do_then, Function, Program}
use Rattle.mm_c.specs.Memory as memory
use Rattle.mm_c.specs.WellFormed.{is_inline}
use Rattle.mm_c.specs.CMeaning.{Stop, Trapped, Spent, Stuck, State, Names, Store, From, stuck, or_stuck, Around, fitted_in, atom_of, value_in, target_in, reads, set_name, zero_all, stored, values_of, atoms_in, Flow, Next, Broke, Continued, Returned, unless_left, next_turn, if_zero, turns, called, call_of, gives, right_of, flow_of, flow_in, flows_of, returned_as, left_by, end_of, body_of, enter, given, with_kinds, no_names, no_kinds, answered, ask, trap, allocate, ints_in, Given, asks, traps, allocates, given_call, Callee, prelude, defined, callee_of, Calls, Steps, plain_callee, plain_calls, any_callee, all_calls, around_of, around_all, steps_of}
use Rattle.mm_c.specs.CRun.{outcome_of, starting}
use Rattle.mm_c.specs.Settles.{Before, SettlesAt, Settles}

order : IsOrder Before
order = record {
  itself = λ s. record { put = front_itself s.world.put };
  through = λ s t u b c. record { put = front_through s.world.put t.world.put u.world.put b.put c.put };
}

abbrev BeforeStore : Store → Store → Type 0
BeforeStore s t = Before s.state t.state

store_order : IsOrder BeforeStore
store_order = record { itself = λ s. order.itself s.state; through = λ s t u b c. order.through s.state t.state u.state b c }

-- The second does with a step more what the first does, and takes nothing back.
record Longer {S A : Type 0} (B : S → S → Type 0) (m n : From S A) : Type 0 where
  adds : Adds Spent B m n
  grows : Grows B n

module _ {S A : Type 0} (B : S → S → Type 0) (o : IsOrder B) where
  long_pure : (a : A) → Longer B (pure a) (pure a)
  long_pure a = record { adds = adds_pure Spent B o a; grows = grows_pure Spent B o a }

  long_stop : (x : Stop) → (x ≡ Spent → ⊥) → Longer {A = A} B (stop x) (stop x)
  long_stop x h = record { adds = adds_stop Spent B o x h; grows = grows_stop Spent B o x }

  long_stuck : Longer {A = A} B stuck stuck
  long_stuck = long_stop Stuck (λ e. cc)

  long_or : (x : Option A) → Longer B (or_stuck x) (or_stuck x)
  long_or None = long_stuck
  long_or (Some a) = long_pure a

  long_step : {m n : From S A} → Longer B m n → Longer B (step Spent m) (step Spent n)
  long_step {m} {n} h = record { adds = adds_step Spent B o m n h.adds h.grows; grows = grows_step Spent B o n h.grows }

  long_if : (b : Bool) {m n m' n' : From S A} → Longer B m n → Longer B m' n' → Longer B (if b then m else m') (if b then n else n')
  long_if true h i = h
  long_if false h i = i

module _ {A C : Type 0} where
  long_then : {m n : From Store A} {f g : A → From Store C} → Longer BeforeStore m n → ((a : A) → Longer BeforeStore (f a) (g a)) → Longer BeforeStore (m >>= f) (n >>= g)
  long_then {m} {n} {f} {g} h i = record {
    adds = adds_then Spent BeforeStore store_order m n f g h.adds (λ a. (i a).adds) (λ a. (i a).grows);
    grows = grows_then Spent BeforeStore store_order n g h.grows (λ a. (i a).grows);
  }

-- ---- what is around a function

module _ {A : Type 0} (s : Store) where
  abbrev whole : Run Stop State A → Run Stop Store A
  whole = within (λ t. record { names = s.names; kinds = s.kinds; state = t })

  whole_before : (t : State) (r : Run Stop State A) → Before t (state_of r) → Before t (state_of (whole r)).state
  whole_before t (Gives a u j) b = b
  whole_before t (Stops x u) b = b

  whole_later : (x y : Run Stop State A) → Later Spent Before x y → Later Spent BeforeStore (whole x) (whole y)
  whole_later _ _ both_give = both_give
  whole_later _ _ (both_stop e) = both_stop e
  whole_later _ y (goes_on {s = t} b) = goes_on (whole_before t y b)

long_reads : (a : CAtom) → Longer BeforeStore (reads a) (reads a)
long_reads a = record { adds = record { by = λ s k. both_give }; grows = record { by = λ s k. order.itself s.state } }

long_set : (x : List ℕ) (v : CValue) → Longer BeforeStore (set_name x v) (set_name x v)
long_set x v = record { adds = record { by = λ s k. both_give }; grows = record { by = λ s k. order.itself s.state } }

long_zero : (xs : List CLocal) → Longer BeforeStore (zero_all xs) (zero_all xs)
long_zero xs = record { adds = record { by = λ s k. both_give }; grows = record { by = λ s k. order.itself s.state } }

same_put : (s : State) (blocks : List memory.Block) → Before s (record { memory = blocks; world = s.world })
same_put s blocks = record { put = front_itself s.world.put }

stored_longer : (x : Option (List memory.Block)) → Longer BeforeStore (stored x) (stored x)
stored_longer None = long_stuck BeforeStore store_order
stored_longer (Some blocks) = record { adds = record { by = λ s k. both_give }; grows = record { by = λ s k. same_put s.state blocks } }

-- the same around a function with another name for its calls
abbrev calling : Around → (List ℕ → List CValue → From State (Option CValue)) → Around
calling m calls = record { call = calls; function_at = m.function_at; number_at = m.number_at }

module _ (m : Around) (calls : List ℕ → List CValue → From State (Option CValue)) (long : (f : List ℕ) (vs : List CValue) → Longer Before (m.call f vs) (calls f vs)) where
  abbrev n : Around
  n = calling m calls

  called_long : (o : Option (List ℕ)) (vs : List CValue) → Longer Before (called m o vs) (called n o vs)
  called_long None vs = long_stuck Before order
  called_long (Some f) vs = long f vs

  call_long : (d : CCall) → Longer BeforeStore (call_of m d) (call_of n d)
  call_long d = record {
    adds = record { by = λ s k. whole_later s (called m (target_in m s d) (values_of s.names (atoms_in d)) s.state k) (called n (target_in m s d) (values_of s.names (atoms_in d)) s.state (suc k)) ((called_long (target_in m s d) (values_of s.names (atoms_in d))).adds.by s.state k) };
    grows = record { by = λ s k. whole_before s s.state (called n (target_in n s d) (values_of s.names (atoms_in d)) s.state k) ((called_long (target_in n s d) (values_of s.names (atoms_in d))).grows.by s.state k) };
  }

  gives_long : (r : CExpr) → Longer BeforeStore (gives m r) (gives n r)
  gives_long r = record {
    adds = record { by = λ s k. (long_or BeforeStore store_order (value_in m s r)).adds.by s k };
    grows = record { by = λ s k. (long_or BeforeStore store_order (value_in n s r)).grows.by s k };
  }

  right_long : (r : CExpr) → Longer BeforeStore (right_of m r) (right_of n r)
  right_long (Call d) = long_then (call_long d) (λ r. long_or BeforeStore store_order r)
  right_long (Atom a) = gives_long (Atom a)
  right_long (Binary a o b) = gives_long (Binary a o b)
  right_long (ToInt x) = gives_long (ToInt x)
  right_long (ToUnsigned x) = gives_long (ToUnsigned x)
  right_long (Load d p) = gives_long (Load d p)
  right_long (Index a i) = gives_long (Index a i)

flow_pure : (flow : Flow) → Longer BeforeStore (pure flow) (pure flow)
flow_pure flow = long_pure BeforeStore store_order flow

unless_long : (flow : Flow) {m n : From Store Flow} → Longer BeforeStore m n → Longer BeforeStore (unless_left flow m) (unless_left flow n)
unless_long Next h = h
unless_long Broke h = flow_pure _
unless_long Continued h = flow_pure _
unless_long (Returned v) h = flow_pure _

next_long : (flow : Flow) {m n : From Store Flow} → Longer BeforeStore m n → Longer BeforeStore (next_turn flow m) (next_turn flow n)
next_long Next h = h
next_long Continued h = h
next_long Broke h = flow_pure _
next_long (Returned v) h = flow_pure _

zero_long : (v : CValue) {m n m' n' : From Store Flow} → Longer BeforeStore m n → Longer BeforeStore m' n' → Longer BeforeStore (if_zero v m m') (if_zero v n n')
zero_long (Int (pos zero)) h i = h
zero_long (Int (pos (suc k))) h i = i
zero_long (Int (negsuc k)) h i = i
zero_long (Unsigned k) h i = long_stuck BeforeStore store_order
zero_long (Long z) h i = long_stuck BeforeStore store_order
zero_long Null h i = long_stuck BeforeStore store_order
zero_long (At b o) h i = long_stuck BeforeStore store_order

turns_grow : (n : ℕ) (turn : From Store Flow) → Grows BeforeStore turn → Grows BeforeStore (turns n turn)
turns_grow zero turn h = grows_stop Spent BeforeStore store_order Spent
turns_grow (suc n) turn h =
    grows_step Spent BeforeStore store_order (turn >>= (λ flow. next_turn flow (turns n turn)))
    (grows_then Spent BeforeStore store_order turn (λ flow. next_turn flow (turns n turn)) h (λ flow. go flow (turns_grow n turn h)))
  where
    go : (flow : Flow) {m : From Store Flow} → Grows BeforeStore m → Grows BeforeStore (next_turn flow m)
    go Next h = h
    go Continued h = h
    go Broke h = grows_pure Spent BeforeStore store_order _
    go (Returned v) h = grows_pure Spent BeforeStore store_order _

turns_long : (k : ℕ) {t u : From Store Flow} → Longer BeforeStore t u → Longer BeforeStore (turns k t) (turns (suc k) u)
turns_long zero {t} {u} h = record { adds = record { by = λ s k. goes_on ((turns_grow 1 u h.grows).by s (suc k)) }; grows = turns_grow 1 u h.grows }
turns_long (suc k) {t} {u} h = long_step BeforeStore store_order {m = t >>= (λ flow. next_turn flow (turns k t))} {n = u >>= (λ flow. next_turn flow (turns (suc k) u))} (long_then h (λ flow. next_long flow (turns_long k h)))

module _ (m : Around) (calls : List ℕ → List CValue → From State (Option CValue)) (long : (f : List ℕ) (vs : List CValue) → Longer Before (m.call f vs) (calls f vs)) where
  mutual
    flow_long : (st : Stmt) → Longer BeforeStore (flow_of m st) (flow_of (calling m calls) st)
    flow_long (assign x r) = long_then (right_long m calls long r) (λ v. long_then (long_set x v) (λ u. flow_pure Next))
    flow_long (store d p a) = long_then (record { adds = record { by = λ s k. (stored_longer (memory.store s.state.memory d (s.names p.pointer) p.offset.value (fitted_in d (atom_of s.names a)))).adds.by s k }; grows = record { by = λ s k. (stored_longer (memory.store s.state.memory d (s.names p.pointer) p.offset.value (fitted_in d (atom_of s.names a)))).grows.by s k } }) (λ u. flow_pure Next)
    flow_long (run d) = long_then (call_long m calls long d) (λ r. flow_pure Next)
    flow_long (if_only a b) = long_then (long_reads a) (λ v. zero_long v (flow_pure Next) (block_long b))
    flow_long (if_else a b d) = long_then (long_reads a) (λ v. zero_long v (block_long d) (block_long b))
    flow_long (forever b) = record {
      adds = record { by = λ s k. (turns_long k (block_long b)).adds.by s k };
      grows = record { by = λ s k. (turns_grow k (flow_in (calling m calls) b) (block_long b).grows).by s k };
    }
    flow_long break = flow_pure Broke
    flow_long continue = flow_pure Continued
    flow_long leave = flow_pure (Returned None)
    flow_long (return a) = long_then (long_reads a) (λ v. flow_pure (Returned (Some v)))

    block_long : (b : Block) → Longer BeforeStore (flow_in m b) (flow_in (calling m calls) b)
    block_long (block xs code) = long_then (long_zero xs) (λ u. flows_long code)

    flows_long : (sts : Code) → Longer BeforeStore (flows_of m sts) (flows_of (calling m calls) sts)
    flows_long done = flow_pure Next
    flows_long (do_then st sts) = long_then (flow_long st) (λ flow. unless_long flow (flows_long sts))

-- ---- functions

long_returned : (r : Option CKind) (v : Option CValue) → Longer Before (returned_as r v) (returned_as r v)
long_returned None None = long_pure Before order _
long_returned None (Some v) = long_stuck Before order
long_returned (Some r) None = long_stuck Before order
long_returned (Some r) (Some v) = long_pure Before order _

long_left : (r : Option CKind) (flow : Flow) → Longer Before (left_by r flow) (left_by r flow)
long_left r Next = long_returned r None
long_left r Broke = long_stuck Before order
long_left r Continued = long_stuck Before order
long_left r (Returned v) = long_returned r v

end_before : (r : Option CKind) (t : State) (x : Run Stop Store Flow) → Before t (state_of x).state → Before t (state_of (end_of r x))
end_before r t (Gives flow s k) b = order.through t s.state _ b ((long_left r flow).grows.by s.state k)
end_before r t (Stops x s) b = b

end_later : (r : Option CKind) (x y : Run Stop Store Flow) → Later Spent BeforeStore x y → Later Spent Before (end_of r x) (end_of r y)
end_later r _ _ (both_give {a = flow} {s = s} {k = k}) = (long_left r flow).adds.by s.state k
end_later r _ _ (both_stop e) = both_stop e
end_later r _ y (goes_on {s = s} b) = goes_on (end_before r s.state y b)

body_long : (m : Around) (calls : List ℕ → List CValue → From State (Option CValue)) → ((f : List ℕ) (vs : List CValue) → Longer Before (m.call f vs) (calls f vs)) → (f : Function) (o : Option Names) → Longer Before (body_of m f o) (body_of (calling m calls) f o)
body_long m calls long f None = long_stuck Before order
body_long m calls long f (Some names) = record {
  adds = record { by = λ w k. end_later f.result _ _ ((block_long m calls long f.body).adds.by (record { names = names; kinds = with_kinds f.params no_kinds; state = w }) k) };
  grows = record { by = λ w k. end_before f.result w (flow_in (calling m calls) f.body (record { names = names; kinds = with_kinds f.params no_kinds; state = w }) k) ((block_long m calls long f.body).grows.by (record { names = names; kinds = with_kinds f.params no_kinds; state = w }) k) };
}

enter_long : (p : Program) (x y : Calls) → ((f : List ℕ) (vs : List CValue) → Longer Before (x f vs) (y f vs)) → (f : Function) (vs : List CValue) → Longer Before (enter (around_of p x) f vs) (enter (around_of p y) f vs)
enter_long p x y long f vs = body_long (around_of p x) y long f (given f.params vs no_names)

-- ---- the functions of the prelude

abbrev WorldGrew : World → Result (Option ℤ × World) Trap → Type 0
WorldGrew w (Ok r) = IsFront w.put r.1.put
WorldGrew w (Err t) = Unit {0}

got_grew : (w : World) (o : Option ℤ) → WorldGrew w (got w o)
got_grew w None = tt
got_grew w (Some z) = front_itself w.put

world_grew : (b : Builtin) (zs : List ℤ) (w : World) → WorldGrew w (call_builtin b zs w)
world_grew Put [] w = front_itself w.put
world_grew Put (z ∷ zs) w = (z ∷ [], refl)
world_grew Get zs w = got_grew w (slice_get w.input w.taken)
world_grew More zs w = front_itself w.put

no_trap_is_spent : (k : ℕ) → Trapped k ≡ Spent → ⊥
no_trap_is_spent k e = cc

answered_before : (r : Result (Option ℤ × World) Trap) (s : State) (k : ℕ) → WorldGrew s.world r → Before s (state_of (answered r s k))
answered_before (Ok r) s k g = record { put = g }
answered_before (Err t) s k g = order.itself s

answered_later : (r : Result (Option ℤ × World) Trap) (s : State) (k : ℕ) → Later Spent Before (answered r s k) (answered r s (suc k))
answered_later (Ok r) s k = both_give
answered_later (Err t) s k = both_stop (no_trap_is_spent (code_of t))

ask_long : (b : Builtin) (o : Option (List ℤ)) → Longer Before (ask b o) (ask b o)
ask_long b None = long_stuck Before order
ask_long b (Some zs) = record {
  adds = record { by = λ s k. answered_later (call_builtin b zs s.world) s k };
  grows = record { by = λ s k. answered_before (call_builtin b zs s.world) s k (world_grew b zs s.world) };
}

trap_long : (zs : Option (List ℤ)) → Longer Before (trap zs) (trap zs)
trap_long (Some (pos k ∷ [])) = long_if Before order _ (long_stop Before order (Trapped k) (no_trap_is_spent k)) (long_stuck Before order)
trap_long _ = long_stuck Before order

allocate_long : (vs : List CValue) → Longer Before (allocate vs) (allocate vs)
allocate_long (Unsigned (suc n) ∷ []) = record { adds = record { by = λ s k. both_give }; grows = record { by = λ s k. same_put s _ } }
allocate_long _ = long_stuck Before order

given_long : (g : Given) (vs : List CValue) → Longer Before (given_call g vs) (given_call g vs)
given_long (asks b) vs = ask_long b (ints_in vs)
given_long traps vs = trap_long (ints_in vs)
given_long allocates vs = allocate_long vs

-- ---- programs

module _ (p : Program) (x y : Steps) (long : (f : Function) (vs : List CValue) → Longer Before (x f vs) (y f vs)) where
  plain_long : (o : Option Callee) (vs : List CValue) → Longer Before (plain_callee x o vs) (plain_callee y o vs)
  plain_long None vs = long_stuck Before order
  plain_long (Some (prelude g)) vs = given_long g vs
  plain_long (Some (defined f)) vs = long_if Before order (is_inline f.linkage) (long_stuck Before order) (long f vs)

  any_long : (o : Option Callee) (vs : List CValue) → Longer Before (any_callee p x o vs) (any_callee p y o vs)
  any_long None vs = long_stuck Before order
  any_long (Some (prelude g)) vs = given_long g vs
  any_long (Some (defined f)) vs = long_if Before order (is_inline f.linkage) (enter_long p (plain_calls p x) (plain_calls p y) (λ g ws. plain_long (callee_of p g) ws) f vs) (long f vs)

steps_grow : (p : Program) (f : Function) (vs : List CValue) → Grows Before (steps_of p 1 f vs)
steps_grow p f vs = grows_step Spent Before order (enter (around_all p (steps_of p 0)) f vs)
    (enter_long p (all_calls p (steps_of p 0)) (all_calls p (steps_of p 0)) (λ g ws. any_long p (steps_of p 0) (steps_of p 0) (λ h us. spent_long) (callee_of p g) ws) f vs).grows
  where
    spent_long : Longer {A = Option CValue} Before (stop Spent) (stop Spent)
    spent_long = record { adds = record { by = λ s k. goes_on (order.itself s) }; grows = record { by = λ s k. order.itself s } }

steps_long : (p : Program) (n : ℕ) (f : Function) (vs : List CValue) → Longer Before (steps_of p n f vs) (steps_of p (suc n) f vs)
steps_long p zero f vs = record { adds = record { by = λ s k. goes_on ((steps_grow p f vs).by s (suc k)) }; grows = steps_grow p f vs }
steps_long p (suc n) f vs =
    long_step Before order {m = enter (around_all p (steps_of p n)) f vs} {n = enter (around_all p (steps_of p (suc n))) f vs}
    (enter_long p (all_calls p (steps_of p n)) (all_calls p (steps_of p (suc n))) (λ g ws. any_long p (steps_of p n) (steps_of p (suc n)) (λ h us. steps_long p n h us) (callee_of p g) ws) f vs)

-- ---- runs

put_of : (r : Run Stop State (Option CValue)) → (outcome_of r).put ≡ (state_of r).world.put
put_of (Gives v s k) = refl
put_of (Stops x s) = refl

settles_at : (x y : Run Stop State (Option CValue)) → Later Spent Before x y → SettlesAt (outcome_of x) (outcome_of y)
settles_at _ _ both_give = inl refl
settles_at _ _ (both_stop e) = inl refl
settles_at _ y (goes_on b) = inr (refl, (b.put.0, put_of y ∙ b.put.1))

-- the law
pub settles : Settles
settles p input n = settles_at _ _ ((any_long p (steps_of p n) (steps_of p (suc n)) (λ f vs. steps_long p n f vs) (callee_of p (codes "main")) []).adds.by (starting input) n)
