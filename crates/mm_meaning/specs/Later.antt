-- What one step more in the bound changes of a run: nothing where it came to its end, and what was done before stands
-- where it didn't. (Own.)
use Rattle.std.specs.Prelude.{◌≡◌, ℕ, suc}
use Rattle.mm_meaning.specs.Run.{Run, Gives, Stops, From}

-- the state that a run leaves
abbrev pub state_of : {Stop S A : Type 0} → Run Stop S A → S
state_of (Gives a s k) = s
state_of (Stops x s) = s

-- A run, and the one with a step more: both give the same, with one step more left; or both stop in the same way; or
-- the first one's steps were spent, and the second one's state comes after the first one's.
pub data Later {Stop S A : Type 0} (spent : Stop) (Before : S → S → Type 0) : Run Stop S A → Run Stop S A → Type 0 where
  both_give : {a : A} {s : S} {k : ℕ} → Later spent Before (Gives a s k) (Gives a s (suc k))
  both_stop : {x : Stop} {s : S} → (x ≡ spent → ⊥) → Later spent Before (Stops x s) (Stops x s)
  goes_on : {s : S} {r : Run Stop S A} → Before s (state_of r) → Later spent Before (Stops spent s) r

-- From every state and clock, what is done comes after the state.
pub record Grows {Stop S A : Type 0} (Before : S → S → Type 0) (m : From Stop S A) : Type 0 where
  pub by : (s : S) (k : ℕ) → Before s (state_of (m s k))

-- With a step more, the second does what the first does.
pub record Adds {Stop S A : Type 0} (spent : Stop) (Before : S → S → Type 0) (m n : From Stop S A) : Type 0 where
  pub by : (s : S) (k : ℕ) → Later spent Before (m s k) (n s (suc k))

-- an order of states
pub record IsOrder {S : Type 0} (Before : S → S → Type 0) : Type 0 where
  pub itself : (s : S) → Before s s
  pub through : (s t u : S) → Before s t → Before t u → Before s u
