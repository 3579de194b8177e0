-- How runs with a step more are put together.
use Rattle.std.proofs.Common.{◌≡◌, ℕ, zero, suc}
use Rattle.mm_meaning.specs.Run.{Run, Gives, Stops, From, then, ◌>>=◌, pure, stop, step}
use Rattle.mm_meaning.specs.Later.{state_of, Later, both_give, both_stop, goes_on, Grows, Adds, IsOrder}

module _ {Stop S A B : Type 0} (spent : Stop) (Before : S → S → Type 0) (order : IsOrder Before) where
  then_after : (x : Run Stop S A) (g : A → From Stop S B) (s : S) → ((a : A) → Grows Before (g a)) → Before s (state_of x) → Before s (state_of ((then) x g))
  then_after (Gives a t k) g s grows b = order.through s t _ b ((grows a).by t k)
  then_after (Stops x t) g s grows b = b

  later_then : (x y : Run Stop S A) (f g : A → From Stop S B) → Later spent Before x y → ((a : A) → Adds spent Before (f a) (g a)) → ((a : A) → Grows Before (g a)) → Later spent Before ((then) x f) ((then) y g)
  later_then _ _ f g (both_give {a = a} {s = s} {k = k}) adds grows = (adds a).by s k
  later_then _ _ f g (both_stop e) adds grows = both_stop e
  later_then _ y f g (goes_on {s = s} b) adds grows = goes_on (then_after y g s grows b)

  pub grows_then : (m : From Stop S A) (g : A → From Stop S B) → Grows Before m → ((a : A) → Grows Before (g a)) → Grows Before (m >>= g)
  grows_then m g h grows = record { by = λ s k. then_after (m s k) g s grows (h.by s k) }

  pub adds_then : (m n : From Stop S A) (f g : A → From Stop S B) → Adds spent Before m n → ((a : A) → Adds spent Before (f a) (g a)) → ((a : A) → Grows Before (g a)) → Adds spent Before (m >>= f) (n >>= g)
  adds_then m n f g h adds grows = record { by = λ s k. later_then (m s k) (n s (suc k)) f g (h.by s k) adds grows }

module _ {Stop S A : Type 0} (spent : Stop) (Before : S → S → Type 0) (order : IsOrder Before) where
  pub grows_pure : (a : A) → Grows {Stop = Stop} Before (pure a)
  grows_pure a = record { by = λ s k. order.itself s }

  pub adds_pure : (a : A) → Adds spent Before (pure a) (pure a)
  adds_pure a = record { by = λ s k. both_give }

  pub grows_stop : (x : Stop) → Grows {A = A} Before (stop x)
  grows_stop x = record { by = λ s k. order.itself s }

  pub adds_stop : (x : Stop) → (x ≡ spent → ⊥) → Adds {A = A} spent Before (stop x) (stop x)
  adds_stop x h = record { by = λ s k. both_stop h }

  -- a step, of which the second has one more to spend
  step_after : (m : From Stop S A) (s : S) (k : ℕ) → Grows Before m → Before s (state_of (step spent m s k))
  step_after m s zero h = order.itself s
  step_after m s (suc k) h = h.by s k

  pub grows_step : (m : From Stop S A) → Grows Before m → Grows Before (step spent m)
  grows_step m h = record { by = λ s k. step_after m s k h }

  later_step : (m n : From Stop S A) (s : S) (k : ℕ) → Adds spent Before m n → Grows Before n → Later spent Before (step spent m s k) (step spent n s (suc k))
  later_step m n s zero a g = goes_on (g.by s 0)
  later_step m n s (suc k) a g = a.by s k

  pub adds_step : (m n : From Stop S A) → Adds spent Before m n → Grows Before n → Adds spent Before (step spent m) (step spent n)
  adds_step m n a g = record { by = λ s k. later_step m n s k a g }
