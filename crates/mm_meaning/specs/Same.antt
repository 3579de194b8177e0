-- When two runs do the same up to a clock, and when one leaves no more of the clock than it was given; when a list
-- begins with another. (Own.)
use Rattle.std.specs.Prelude.{◌≡◌, ℕ, ◌≤◌, List, ◌++◌}
use Rattle.mm_meaning.specs.Run.{Run, Gives, Stops, From}

-- what is left of a clock is no more than was given
abbrev pub Leaves : {Stop S A : Type 0} → ℕ → Run Stop S A → Type 0
Leaves k (Gives a s left) = left ≤ k
Leaves k (Stops t s) = Unit {0}

-- At each clock up to c the two do the same, and leave no more than was given.
pub record Same {Stop S A : Type 0} (c : ℕ) (m n : From Stop S A) : Type 0 where
  pub by : (s : S) (k : ℕ) → k ≤ c → (m s k ≡ n s k) × Leaves k (m s k)

-- the second list begins with the first
abbrev pub IsFront : {X : Type 0} → List X → List X → Type 0
IsFront {X} xs all = (more : List X) × (all ≡ xs ++ more)
