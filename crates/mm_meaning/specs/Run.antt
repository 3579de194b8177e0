-- A run under a clock: what it gives, the state that it leaves, and the clock left. (Own.)
-- `Stop` says what can stop a run before it gives anything. The source and C have stops of their own, so
-- what only one of them can do, as C can be stuck, is no run of the other.
use Rattle.std.specs.Prelude.{ℕ, zero, suc}

-- A run gives a result, in a state and with a clock left, or it stops in a state.
pub data Run (Stop S A : Type 0) : Type 0 where
  Gives : A → S → ℕ → Run Stop S A
  Stops : Stop → S → Run Stop S A

-- what runs from a state and a clock
abbrev pub From : Type 0 → Type 0 → Type 0 → Type 0
From Stop S A = S → ℕ → Run Stop S A

-- a run, and then what its result leads to, from the state and the clock that it leaves
abbrev pub then : {Stop S A B : Type 0} → Run Stop S A → (A → From Stop S B) → Run Stop S B
then (Gives a s k) next = next a s k
then (Stops t s) next = Stops t s

infixl 20 ◌>>=◌
abbrev pub ◌>>=◌ : {Stop S A B : Type 0} → From Stop S A → (A → From Stop S B) → From Stop S B
◌>>=◌ first next s k = then (first s k) next

-- a result at once
abbrev pub pure : {Stop S A : Type 0} → A → From Stop S A
pure a s k = Gives a s k

-- a stop at once
abbrev pub stop : {Stop S A : Type 0} → Stop → From Stop S A
stop t s k = Stops t s

-- One step, and then what follows. The clock counts the steps that are left: where it is 0, the run stops in
-- the way that is given for it.
abbrev pub step : {Stop S A : Type 0} → Stop → From Stop S A → From Stop S A
step spent next s zero = Stops spent s
step spent next s (suc k) = next s k

-- what depends on the clock now
abbrev pub clocked : {Stop S A : Type 0} → (ℕ → From Stop S A) → From Stop S A
clocked f s k = f k s k

-- A run within a part of a state: `put` puts the part that it leaves back into the whole.
abbrev pub within : {Stop S T A : Type 0} → (T → S) → Run Stop T A → Run Stop S A
within put (Gives a t k) = Gives a (put t) k
within put (Stops x t) = Stops x (put t)
