-- The clock left is no more than was given, and calls of more functions inside one another than the clock allows change nothing.
use Rattle.std.proofs.Common.{◌≡◌, ℕ, zero, suc, ◌≤◌, List, refl, ap, arith}
use Rattle.std.specs.Prelude.{pos, Bool, true, false, if◌then◌else◌, Result, Ok, Err, slice_get}
use Rattle.mm_base.specs.declared.num.Trap.{Trap}
use Rattle.mm_base.specs.declared.num.Trap.TheVariants as by
use Rattle.mm_meaning.specs.Run.{Run, Gives, Stops, ◌>>=◌, pure}
use Rattle.mm_classes.specs.declared.class.Ty.TheVariants as ty
use Rattle.mm_core.specs.Tree.{Function, Program}
use Rattle.mm_core.specs.Heads.{same_type, is_main}
use Rattle.mm_core.specs.State.{Value, Number, Nothing, State, Store, Locals, Stop, Trapped, Spent, From, trap, Operation, settled, at_once, outside, or_trap}
use Rattle.mm_core.specs.Virtual.{reads}
use Rattle.mm_core.specs.Meaning.{Flow, Next, Broke, Continued, Returned, get_local, put_local, next_turn, begun, turns_from, loop, result_of, call_of}
use Rattle.mm_meaning.specs.Same.{Leaves, Same}
use Rattle.mm_meaning.proofs.Sames.{same_then, same_pure, same_stop, same_step, same_less, within_same}
use Rattle.mm_core.specs.Settles.{LeavesClock, DeepEnough}
use Rattle.mm_core.proofs.Quiet.{Quiet}
use Rattle.mm_core.proofs.Congruent.{Congruence, enter_law}

-- ---- the state

once_leaves : (r : Result (Value × State) Trap) (s : State) (k : ℕ) → Leaves k (settled r s k)
once_leaves (Ok r) s k = omega arith
once_leaves (Err t) s k = tt

read_leaves : {A : Type 0} (r : Result A Trap) (s : State) (k : ℕ) → Leaves k (or_trap r s k)
read_leaves (Ok a) s k = omega arith
read_leaves (Err t) s k = tt

module _ (c : ℕ) where
  same_once : (op : Operation) → Quiet op → Same c (at_once op) (at_once op)
  same_once op h = record { by = λ s k le. (refl, once_leaves (op s) s k) }

  same_reads : (A : Type 0) (f : State → Result A Trap) → Same c (reads f) (reads f)
  same_reads A f = record { by = λ s k le. (refl, read_leaves (f s) s k) }

  same_get : (x : ℕ) → Same c (get_local x) (get_local x)
  same_get x = record { by = λ s k le. (refl, omega arith) }

  same_put : (x : ℕ) (v : Value) → Same c (put_local x v) (put_local x v)
  same_put x v = record { by = λ s k le. (refl, omega arith) }

  same_outside : (m m' : From State Value) → Same c m m' → Same c (outside m) (outside m')
  same_outside m m' h = record { by = λ s k le. let r = h.by s.state k le in within_same (λ t. record { locals = s.locals; state = t }) k (m s.state k) (m' s.state k) r.0 r.1 }

  -- ---- loops

  next_same : (flow : Flow) (m m' : From Store Flow) → Same c m m' → Same c (next_turn flow m) (next_turn flow m')
  next_same Next m m' h = h
  next_same Continued m m' h = h
  next_same Broke m m' h = same_pure Next
  next_same (Returned v) m m' h = same_pure (Returned v)

  begun_same : (flow : Flow) (m m' n n' : From Store Flow) → Same c m m' → Same c n n' → Same c (begun flow m n) (begun flow m' n')
  begun_same Next m m' n n' h k = h
  begun_same Continued m m' n n' h k = k
  begun_same Broke m m' n n' h k = same_pure Next
  begun_same (Returned v) m m' n n' h k = same_pure (Returned v)

  module _ (before before' body body' : From Store Flow) (b : Same c before before') (d : Same c body body') where
    turns_same : (n : ℕ) (now now' : From Store Flow) → Same c now now' → Same c (turns_from n now before body) (turns_from n now' before' body')
    turns_same zero now now' h = record { by = λ s j le. (refl, tt) }
    turns_same (suc n) now now' h =
        let rest : Same c (body >>= (λ flow. next_turn flow (turns_from n before before body))) (body' >>= (λ flow. next_turn flow (turns_from n before' before' body'))) = same_then d (λ flow. next_same flow (turns_from n before before body) (turns_from n before' before' body') (turns_same n before before' b)) in
        same_less (omega arith) (same_step (same_then h (λ flow. begun_same flow (body >>= (λ flow. next_turn flow (turns_from n before before body))) (body' >>= (λ flow. next_turn flow (turns_from n before' before' body'))) (turns_from n (pure Next) before body) (turns_from n (pure Next) before' body') rest (turns_same n (pure Next) (pure Next) (same_pure Next)))))

    loop_same : Same c (loop before body) (loop before' body')
    loop_same = record { by = λ s j le. (turns_same j (pure Next) (pure Next) (same_pure Next)).by s j le }

-- ---- functions

abbrev ending : Bool → Bool → From State Value
ending b d = if b then pure Nothing else (if d then pure (Number (pos 0)) else trap by.NoResult)

ending_leaves : (b d : Bool) (k j : ℕ) (s : State) → j ≤ k → Leaves k (ending b d s j)
ending_leaves true d k j s le = le
ending_leaves false true k j s le = le
ending_leaves false false k j s le = tt

result_leaves : (f : Function) (k : ℕ) (x : Run Stop Store Flow) → Leaves k x → Leaves k (result_of f x)
result_leaves f k (Gives (Returned v) s j) lv = lv
result_leaves f k (Gives Next s j) lv = ending_leaves (same_type f.result ty.Void) (is_main f) k j s.state lv
result_leaves f k (Gives Broke s j) lv = ending_leaves (same_type f.result ty.Void) (is_main f) k j s.state lv
result_leaves f k (Gives Continued s j) lv = ending_leaves (same_type f.result ty.Void) (is_main f) k j s.state lv
result_leaves f k (Stops t s) lv = tt

same_body : (c : ℕ) (f : Function) (locals : Locals) (m m' : From Store Flow) → Same c m m' → Same c (λ s k. result_of f (m (record { locals = locals; state = s }) k)) (λ s k. result_of f (m' (record { locals = locals; state = s }) k))
same_body c f locals m m' h = record { by = λ s k le. let r = h.by (record { locals = locals; state = s }) k le in (ap (result_of f) r.0, result_leaves f k (m (record { locals = locals; state = s }) k) r.1) }

-- ---- all of it

pub deep : (c : ℕ) → Congruence (λ A m n. Same c m n) (λ A m n. Same c m n)
deep c = record {
  on_pure = λ A a. same_pure a;
  on_then = λ A B m n f g h k. same_then h k;
  on_trap = λ A t. same_stop (Trapped t);
  on_get = same_get c;
  on_put = same_put c;
  on_outside = same_outside c;
  on_loop = λ before before' body body' b d. loop_same c before before' body body' b d;
  state_then = λ A B m n f g h k. same_then h k;
  state_reads = same_reads c;
  state_once = same_once c;
  state_trap = λ A t. same_stop (Trapped t);
  on_body = same_body c;
}

call_empty : (p : Program) (n f : ℕ) (vs : List Value) (s : State) → call_of p n f vs s 0 ≡ Stops Spent s
call_empty p zero f vs s = refl
call_empty p (suc n) f vs s = refl

pub calls_same : (p : Program) (c n m f : ℕ) (vs : List Value) → c ≤ n → c ≤ m → Same c (call_of p n f vs) (call_of p m f vs)
calls_same p zero n m f vs le le' = record { by = λ s k low. let e : k ≡ 0 = omega arith in rw e (rw (call_empty p n f vs s, call_empty p m f vs s) (refl, tt)) }
calls_same p (suc c) zero m f vs le le' = absurd (let x : ⊥ = omega arith in x)
calls_same p (suc c) (suc n) zero f vs le le' = absurd (let x : ⊥ = omega arith in x)
calls_same p (suc c) (suc n) (suc m) f vs le le' = same_step (enter_law (λ A x y. Same c x y) (λ A x y. Same c x y) (deep c) p (call_of p n) (call_of p m) (λ h ws. calls_same p c n m h ws (omega arith) (omega arith)) (slice_get p.functions f) vs)

-- at every clock, whatever the depth
calls_leave : (p : Program) (c n f : ℕ) (vs : List Value) → Same c (call_of p n f vs) (call_of p n f vs)
calls_leave p c zero f vs = same_stop Spent
calls_leave p c (suc n) f vs = same_less (omega arith) (same_step (enter_law (λ A x y. Same c x y) (λ A x y. Same c x y) (deep c) p (call_of p n) (call_of p n) (λ h ws. calls_leave p c n h ws) (slice_get p.functions f) vs))

-- the laws
pub clock_left : LeavesClock
clock_left = record { by = λ p n f vs s k. ((calls_leave p k n f vs).by s k (omega arith)).1 }

pub deep_enough : DeepEnough
deep_enough = record { by = calls_same }
