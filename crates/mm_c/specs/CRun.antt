-- The run of a C program on an input, with a bound on its steps. (Own.)
use Rattle.std.specs.Prelude.{ℕ, ℤ, List, [], Option, Some, codes}
use Rattle.mm_base.specs.World.{world_of}
use Rattle.mm_meaning.specs.Run.{Run, Gives, Stops}
use Rattle.mm_c.specs.declared.value.CValue.{CValue}
use Rattle.mm_c.specs.declared.value.CValue.TheVariants.{Int}
use Rattle.mm_c.specs.Tree.{Program}
use Rattle.mm_c.specs.CMeaning.{Stop, Trapped, Spent, Stuck, State, named_call}

-- How a run ends: with the result of `main`, with a trap, where a step past the bound is due, or stuck.
pub data Finish : Type 0 where
  Ended : ℤ → Finish
  TrappedBy : ℕ → Finish
  GoesOn : Finish
  IsStuck : Finish

-- a run's end, and the numbers put
pub record Outcome : Type 0 where
  pub finish : Finish
  pub put : List ℤ

abbrev pub ended_by : Option CValue → Finish
ended_by (Some (Int z)) = Ended z
ended_by _ = IsStuck

abbrev pub stopped_by : Stop → Finish
stopped_by (Trapped k) = TrappedBy k
stopped_by Spent = GoesOn
stopped_by Stuck = IsStuck

abbrev pub outcome_of : Run Stop State (Option CValue) → Outcome
outcome_of (Gives v s k) = record { finish = ended_by v; put = s.world.put }
outcome_of (Stops t s) = record { finish = stopped_by t; put = s.world.put }

-- no block, and the world as a run begins
abbrev pub starting : List ℤ → State
starting input = record { memory = []; world = world_of input }

-- `main` is entered by a call, which is a step; no call goes deeper than the bound.
abbrev pub c_run : Program → List ℤ → ℕ → Outcome
c_run p input n = outcome_of (named_call p n (codes "main") [] (starting input) n)
