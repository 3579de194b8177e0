-- With a step more a run does what it did, and a run that came to its end stays as it is.
use Rattle.std.proofs.Common.{◌≡◌, ℕ, zero, suc, List, [], refl, ◌∙◌, inl, inr}
use Rattle.std.specs.Prelude.{pos, Bool, true, false, if◌then◌else◌, Result, Ok, Err, slice_get}
use Rattle.mm_base.specs.declared.num.Trap.{Trap}
use Rattle.mm_base.specs.declared.num.Trap.TheVariants as by
use Rattle.mm_meaning.specs.Run as runs
use Rattle.mm_meaning.specs.Run.{Run, Gives, Stops, step, within}
use Rattle.mm_meaning.specs.Later.{state_of, Later, both_give, both_stop, goes_on, Grows, Adds, IsOrder}
use Rattle.mm_meaning.proofs.Laters.{grows_then, adds_then, grows_pure, adds_pure, grows_stop, adds_stop, grows_step, adds_step}
use Rattle.mm_classes.specs.declared.class.Ty.TheVariants as ty
use Rattle.mm_core.specs.Tree.{Function, Program}
use Rattle.mm_core.specs.Heads.{same_type, is_main}
use Rattle.mm_core.specs.State.{Value, Number, Nothing, State, Store, Locals, Stop, Trapped, Spent, From, Operation, settled, at_once, outside, or_trap}
use Rattle.mm_core.specs.Virtual.{Calls, reads}
use Rattle.mm_core.specs.Meaning.{Flow, Next, Broke, Continued, Returned, get_local, put_local, next_turn, begun, turns_from, loop, result_of, enter_if, setting_of, call_of}
use Rattle.mm_core.specs.Run.{outcome_of, number_of_main, starting}
use Rattle.mm_core.specs.Settles.{Before, SettlesAt, Settles}
use Rattle.mm_core.proofs.Quiet.{order, Follows, Quiet}
use Rattle.mm_core.proofs.Congruent.{Congruence, enter_law}

abbrev BeforeStore : Store → Store → Type 0
BeforeStore s t = Before s.state t.state

store_order : IsOrder BeforeStore
store_order = record { itself = λ s. order.itself s.state; through = λ s t u b c. order.through s.state t.state u.state b c }

no_trap_is_spent : (t : Trap) → Trapped t ≡ Spent → ⊥
no_trap_is_spent t e = cc

-- Neither takes back what was put, and with a step more the second does what the first does.
record Goes {S A : Type 0} (Order : S → S → Type 0) (m n : From S A) : Type 0 where
  first : Grows Order m
  second : Grows Order n
  adds : Adds Spent Order m n

-- ---- in one state

module _ {S : Type 0} (Order : S → S → Type 0) (order : IsOrder Order) where
  goes_pure : (A : Type 0) (a : A) → Goes Order (runs.pure a) (runs.pure a)
  goes_pure A a = record { first = grows_pure Spent Order order a; second = grows_pure Spent Order order a; adds = adds_pure Spent Order order a }

  goes_trap : (A : Type 0) (t : Trap) → Goes {A = A} Order (runs.stop (Trapped t)) (runs.stop (Trapped t))
  goes_trap A t = record { first = grows_stop Spent Order order (Trapped t); second = grows_stop Spent Order order (Trapped t); adds = adds_stop Spent Order order (Trapped t) (no_trap_is_spent t) }

  goes_then : (A B : Type 0) (m n : From S A) (f g : A → From S B) → Goes Order m n → ((a : A) → Goes Order (f a) (g a)) → Goes Order (runs.◌>>=◌ m f) (runs.◌>>=◌ n g)
  goes_then A B m n f g h k = record {
    first = grows_then Spent Order order m f h.first (λ a. (k a).first);
    second = grows_then Spent Order order n g h.second (λ a. (k a).second);
    adds = adds_then Spent Order order m n f g h.adds (λ a. (k a).adds) (λ a. (k a).second);
  }

-- ---- the state

once_before : (r : Result (Value × State) Trap) (s : State) (k : ℕ) → Follows s r → Before s (state_of (settled r s k))
once_before (Ok r) s k h = h
once_before (Err t) s k h = order.itself s

once_later : (r : Result (Value × State) Trap) (s : State) (k : ℕ) → Later Spent Before (settled r s k) (settled r s (suc k))
once_later (Ok r) s k = both_give
once_later (Err t) s k = both_stop (no_trap_is_spent t)

once_goes : (op : Operation) → Quiet op → Goes Before (at_once op) (at_once op)
once_goes op h =
    let g : Grows Before (at_once op) = record { by = λ s k. once_before (op s) s k (h.by s) } in
    record { first = g; second = g; adds = record { by = λ s k. once_later (op s) s k } }

module _ {A : Type 0} where
  read_before : (r : Result A Trap) (s : State) (k : ℕ) → Before s (state_of (or_trap r s k))
  read_before (Ok a) s k = order.itself s
  read_before (Err t) s k = order.itself s

  read_later : (r : Result A Trap) (s : State) (k : ℕ) → Later Spent Before (or_trap r s k) (or_trap r s (suc k))
  read_later (Ok a) s k = both_give
  read_later (Err t) s k = both_stop (no_trap_is_spent t)

reads_goes : (A : Type 0) (f : State → Result A Trap) → Goes Before (reads f) (reads f)
reads_goes A f =
    let g : Grows Before (reads f) = record { by = λ s k. read_before (f s) s k } in
    record { first = g; second = g; adds = record { by = λ s k. read_later (f s) s k } }

-- ---- what has no locals, among what has

module _ (s : Store) where
  abbrev whole : Run Stop State Value → Run Stop Store Value
  whole = within (λ t. record { locals = s.locals; state = t })

  whole_before : (t : State) (r : Run Stop State Value) → Before t (state_of r) → Before t (state_of (whole r)).state
  whole_before t (Gives a u j) b = b
  whole_before t (Stops x u) b = b

  whole_later : (x y : Run Stop State Value) → Later Spent Before x y → Later Spent BeforeStore (whole x) (whole y)
  whole_later _ _ both_give = both_give
  whole_later _ _ (both_stop e) = both_stop e
  whole_later _ y (goes_on {s = t} b) = goes_on (whole_before t y b)

outside_goes : (m n : From State Value) → Goes Before m n → Goes BeforeStore (outside m) (outside n)
outside_goes m n h = record {
  first = record { by = λ s k. whole_before s s.state (m s.state k) (h.first.by s.state k) };
  second = record { by = λ s k. whole_before s s.state (n s.state k) (h.second.by s.state k) };
  adds = record { by = λ s k. whole_later s (m s.state k) (n s.state (suc k)) (h.adds.by s.state k) };
}

get_goes : (x : ℕ) → Goes BeforeStore (get_local x) (get_local x)
get_goes x =
    let g : Grows BeforeStore (get_local x) = record { by = λ s k. order.itself s.state } in
    record { first = g; second = g; adds = record { by = λ s k. both_give } }

put_goes : (x : ℕ) (v : Value) → Goes BeforeStore (put_local x v) (put_local x v)
put_goes x v =
    let g : Grows BeforeStore (put_local x v) = record { by = λ s k. order.itself s.state } in
    record { first = g; second = g; adds = record { by = λ s k. both_give } }

-- ---- loops

abbrev then_grows : (m : From Store Flow) (g : Flow → From Store Flow) → Grows BeforeStore m → ((a : Flow) → Grows BeforeStore (g a)) → Grows BeforeStore (runs.◌>>=◌ m g)
then_grows m g = grows_then Spent BeforeStore store_order m g

next_grows : (flow : Flow) (m : From Store Flow) → Grows BeforeStore m → Grows BeforeStore (next_turn flow m)
next_grows Next m h = h
next_grows Continued m h = h
next_grows Broke m h = grows_pure Spent BeforeStore store_order Next
next_grows (Returned v) m h = grows_pure Spent BeforeStore store_order (Returned v)

next_adds : (flow : Flow) (m n : From Store Flow) → Adds Spent BeforeStore m n → Adds Spent BeforeStore (next_turn flow m) (next_turn flow n)
next_adds Next m n h = h
next_adds Continued m n h = h
next_adds Broke m n h = adds_pure Spent BeforeStore store_order Next
next_adds (Returned v) m n h = adds_pure Spent BeforeStore store_order (Returned v)

begun_grows : (flow : Flow) (m n : From Store Flow) → Grows BeforeStore m → Grows BeforeStore n → Grows BeforeStore (begun flow m n)
begun_grows Next m n h k = h
begun_grows Continued m n h k = k
begun_grows Broke m n h k = grows_pure Spent BeforeStore store_order Next
begun_grows (Returned v) m n h k = grows_pure Spent BeforeStore store_order (Returned v)

begun_adds : (flow : Flow) (m m' n n' : From Store Flow) → Adds Spent BeforeStore m m' → Adds Spent BeforeStore n n' → Adds Spent BeforeStore (begun flow m n) (begun flow m' n')
begun_adds Next m m' n n' h k = h
begun_adds Continued m m' n n' h k = k
begun_adds Broke m m' n n' h k = adds_pure Spent BeforeStore store_order Next
begun_adds (Returned v) m m' n n' h k = adds_pure Spent BeforeStore store_order (Returned v)

next_go : Goes BeforeStore (runs.pure Next) (runs.pure Next)
next_go = goes_pure BeforeStore store_order Flow Next

-- what follows where a turn begins: its body, and the turns after it
abbrev rest_of : ℕ → From Store Flow → From Store Flow → From Store Flow
rest_of n before body = runs.◌>>=◌ body (λ flow. next_turn flow (turns_from n before before body))

abbrev begins : ℕ → From Store Flow → From Store Flow → Flow → From Store Flow
begins n before body flow = begun flow (rest_of n before body) (turns_from n (runs.pure Next) before body)

begin_grows : (n : ℕ) (before body : From Store Flow) → Grows BeforeStore body → Grows BeforeStore (turns_from n before before body) → Grows BeforeStore (turns_from n (runs.pure Next) before body) → (flow : Flow) → Grows BeforeStore (begins n before body flow)
begin_grows n before body d t u flow = begun_grows flow (rest_of n before body) (turns_from n (runs.pure Next) before body) (then_grows body (λ flow. next_turn flow (turns_from n before before body)) d (λ flow. next_grows flow (turns_from n before before body) t)) u

module _ (before body : From Store Flow) (b : Grows BeforeStore before) (d : Grows BeforeStore body) where
  turns_grow : (n : ℕ) (now : From Store Flow) → Grows BeforeStore now → Grows BeforeStore (turns_from n now before body)
  turns_grow zero now h = grows_stop Spent BeforeStore store_order Spent
  turns_grow (suc n) now h = grows_step Spent BeforeStore store_order _ (then_grows now (begins n before body) h (begin_grows n before body d (turns_grow n before b) (turns_grow n (runs.pure Next) next_go.first)))

module _ (before before' body body' : From Store Flow) (b : Goes BeforeStore before before') (d : Goes BeforeStore body body') where
  abbrev grown : (n : ℕ) (now : From Store Flow) → Grows BeforeStore now → Grows BeforeStore (turns_from n now before' body')
  grown = turns_grow before' body' b.second d.second

  begins_grown : (n : ℕ) (flow : Flow) → Grows BeforeStore (begins n before' body' flow)
  begins_grown n = begin_grows n before' body' d.second (grown n before' b.second) (grown n (runs.pure Next) next_go.first)

  begin_adds : (n : ℕ) → Adds Spent BeforeStore (turns_from n before before body) (turns_from (suc n) before' before' body') → Adds Spent BeforeStore (turns_from n (runs.pure Next) before body) (turns_from (suc n) (runs.pure Next) before' body') → (flow : Flow) → Adds Spent BeforeStore (begins n before body flow) (begins (suc n) before' body' flow)
  begin_adds n t u flow = begun_adds flow (rest_of n before body) (rest_of (suc n) before' body') (turns_from n (runs.pure Next) before body) (turns_from (suc n) (runs.pure Next) before' body')
      (adds_then Spent BeforeStore store_order body body' (λ flow. next_turn flow (turns_from n before before body)) (λ flow. next_turn flow (turns_from (suc n) before' before' body')) d.adds (λ flow. next_adds flow (turns_from n before before body) (turns_from (suc n) before' before' body') t) (λ flow. next_grows flow (turns_from (suc n) before' before' body') (grown (suc n) before' b.second)))
      u

  turns_add : (n : ℕ) (now now' : From Store Flow) → Goes BeforeStore now now' → Adds Spent BeforeStore (turns_from n now before body) (turns_from (suc n) now' before' body')
  turns_add zero now now' h = record { by = λ s j. goes_on ((grown 1 now' h.second).by s (suc j)) }
  turns_add (suc n) now now' h =
      adds_step Spent BeforeStore store_order (runs.◌>>=◌ now (begins n before body)) (runs.◌>>=◌ now' (begins (suc n) before' body'))
      (adds_then Spent BeforeStore store_order now now' (begins n before body) (begins (suc n) before' body') h.adds (begin_adds n (turns_add n before before' b) (turns_add n (runs.pure Next) (runs.pure Next) next_go)) (begins_grown (suc n)))
      (then_grows now' (begins (suc n) before' body') h.second (begins_grown (suc n)))

  loop_goes : Goes BeforeStore (loop before body) (loop before' body')
  loop_goes = record {
    first = record { by = λ s j. (turns_grow before body b.first d.first j (runs.pure Next) next_go.first).by s j };
    second = record { by = λ s j. (grown j (runs.pure Next) next_go.first).by s j };
    adds = record { by = λ s j. (turns_add j (runs.pure Next) (runs.pure Next) next_go).by s j };
  }

-- ---- functions

abbrev ending : Bool → Bool → From State Value
ending b d = if b then runs.pure Nothing else (if d then runs.pure (Number (pos 0)) else runs.stop (Trapped by.NoResult))

ending_before : (b d : Bool) (s t : State) (k : ℕ) → Before s t → Before s (state_of (ending b d t k))
ending_before true d s t k h = h
ending_before false true s t k h = h
ending_before false false s t k h = h

ending_later : (b d : Bool) (s : State) (k : ℕ) → Later Spent Before (ending b d s k) (ending b d s (suc k))
ending_later true d s k = both_give
ending_later false true s k = both_give
ending_later false false s k = both_stop (no_trap_is_spent by.NoResult)

module _ (f : Function) where
  abbrev is_void : Bool
  is_void = same_type f.result ty.Void

  result_before : (s : State) (r : Run Stop Store Flow) → Before s (state_of r).state → Before s (state_of (result_of f r))
  result_before s (Gives (Returned v) t k) b = b
  result_before s (Gives Next t k) b = ending_before is_void (is_main f) s t.state k b
  result_before s (Gives Broke t k) b = ending_before is_void (is_main f) s t.state k b
  result_before s (Gives Continued t k) b = ending_before is_void (is_main f) s t.state k b
  result_before s (Stops x t) b = b

  flow_later : (flow : Flow) (s : Store) (k : ℕ) → Later Spent Before (result_of f (Gives flow s k)) (result_of f (Gives flow s (suc k)))
  flow_later (Returned v) s k = both_give
  flow_later Next s k = ending_later is_void (is_main f) s.state k
  flow_later Broke s k = ending_later is_void (is_main f) s.state k
  flow_later Continued s k = ending_later is_void (is_main f) s.state k

  result_later : (x y : Run Stop Store Flow) → Later Spent BeforeStore x y → Later Spent Before (result_of f x) (result_of f y)
  result_later _ _ (both_give {a = flow} {s = s} {k = k}) = flow_later flow s k
  result_later _ _ (both_stop e) = both_stop e
  result_later _ y (goes_on {s = s} b) = goes_on (result_before s.state y b)

abbrev on_locals : Locals → State → Store
on_locals locals s = record { locals = locals; state = s }

body_goes : (f : Function) (locals : Locals) (m n : From Store Flow) → Goes BeforeStore m n → Goes Before (λ s k. result_of f (m (on_locals locals s) k)) (λ s k. result_of f (n (on_locals locals s) k))
body_goes f locals m n h = record {
  first = record { by = λ s k. result_before f s (m (on_locals locals s) k) (h.first.by (on_locals locals s) k) };
  second = record { by = λ s k. result_before f s (n (on_locals locals s) k) (h.second.by (on_locals locals s) k) };
  adds = record { by = λ s k. result_later f (m (on_locals locals s) k) (n (on_locals locals s) (suc k)) (h.adds.by (on_locals locals s) k) };
}

-- ---- all of it

longer : Congruence (λ A m n. Goes BeforeStore m n) (λ A m n. Goes Before m n)
longer = record {
  on_pure = goes_pure BeforeStore store_order;
  on_then = goes_then BeforeStore store_order;
  on_trap = goes_trap BeforeStore store_order;
  on_get = get_goes;
  on_put = put_goes;
  on_outside = outside_goes;
  on_loop = loop_goes;
  state_then = goes_then Before order;
  state_reads = reads_goes;
  state_once = once_goes;
  state_trap = goes_trap Before order;
  on_body = body_goes;
}

module _ (p : Program) where
  entered : (calls calls' : Calls) → ((f : ℕ) (vs : List Value) → Goes Before (calls f vs) (calls' f vs)) → (f : ℕ) (vs : List Value) → Goes Before (enter_if (setting_of p calls) (slice_get p.functions f) vs) (enter_if (setting_of p calls') (slice_get p.functions f) vs)
  entered calls calls' h f vs = enter_law (λ A m n. Goes BeforeStore m n) (λ A m n. Goes Before m n) longer p calls calls' h (slice_get p.functions f) vs

  none_go : (f : ℕ) (vs : List Value) → Goes Before (call_of p 0 f vs) (call_of p 0 f vs)
  none_go f vs =
      let g : Grows Before (call_of p 0 f vs) = grows_stop Spent Before order Spent in
      record { first = g; second = g; adds = record { by = λ s k. goes_on (order.itself s) } }

  one_grows : (f : ℕ) (vs : List Value) → Grows Before (call_of p 1 f vs)
  one_grows f vs = grows_step Spent Before order _ (entered (call_of p 0) (call_of p 0) none_go f vs).first

  calls_go : (n f : ℕ) (vs : List Value) → Goes Before (call_of p n f vs) (call_of p (suc n) f vs)
  calls_go zero f vs = record { first = (none_go f vs).first; second = one_grows f vs; adds = record { by = λ s k. goes_on ((one_grows f vs).by s (suc k)) } }
  calls_go (suc n) f vs =
      let e = entered (call_of p n) (call_of p (suc n)) (calls_go n) f vs in
      record {
        first = grows_step Spent Before order _ e.first;
        second = grows_step Spent Before order _ e.second;
        adds = adds_step Spent Before order _ _ e.adds e.second;
      }

-- ---- runs

put_of : (r : Run Stop State Value) → (outcome_of r).put ≡ (state_of r).world.put
put_of (Gives v s k) = refl
put_of (Stops x s) = refl

settles_at : (x y : Run Stop State Value) → Later Spent Before x y → SettlesAt (outcome_of x) (outcome_of y)
settles_at _ _ both_give = inl refl
settles_at _ _ (both_stop e) = inl refl
settles_at _ y (goes_on b) = inr (refl, (b.put.0, put_of y ∙ b.put.1))

-- the law
pub settles : Settles
settles = record { by = λ p input n. settles_at _ _ ((calls_go p n (number_of_main p.functions) []).adds.by (starting input) n) }
