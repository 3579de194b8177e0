-- A run that came to its end stays as it is at higher bounds, and one that goes on has put a front
-- of what is put later. (Own.)
use Rattle.std.specs.Prelude.{◌≡◌, ◌⊎◌, ℕ, suc, ◌≤◌, ℤ, List}
use Rattle.mm_meaning.specs.Same.{Leaves, Same, IsFront}
use Rattle.mm_core.specs.Tree.{Program}
use Rattle.mm_core.specs.State.{Value, State}
use Rattle.mm_core.specs.Meaning.{call_of}
use Rattle.mm_core.specs.Run.{Outcome, GoesOn, source_run}

-- nothing that was put is taken back
pub record Before (s t : State) : Type 0 where
  pub put : IsFront s.world.put t.world.put

-- a run, and the one with one step more in the bound
abbrev pub SettlesAt : Outcome → Outcome → Type 0
SettlesAt o o' = (o' ≡ o) ⊎ ((o.finish ≡ GoesOn) × IsFront o.put o'.put)

pub record Settles : Type 0 where
  pub by : (p : Program) (input : List ℤ) (n : ℕ) →
      SettlesAt (source_run p input n) (source_run p input (suc n))

-- What is left of the clock is no more than was given.
pub record LeavesClock : Type 0 where
  pub by : (p : Program) (n f : ℕ) (vs : List Value) (s : State) (k : ℕ) →
      Leaves k (call_of p n f vs s k)

-- The depth of calls is no bound beside the clock: all depths that are no less than the clock give
-- one run.
pub record DeepEnough : Type 0 where
  pub by : (p : Program) (c n m f : ℕ) (vs : List Value) → c ≤ n → c ≤ m →
      Same c (call_of p n f vs) (call_of p m f vs)
