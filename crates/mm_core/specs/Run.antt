-- The run of a program on an input, with a bound on its steps. (ISO/IEC 14882, 3.6.1; the bound is
-- own.)
use Rattle.std.specs.Prelude.{ℕ, suc, ℤ, List, [], ◌∷◌, ◌&&◌, if◌then◌else◌}
use Rattle.mm_base.specs.Num.{code_of}
use Rattle.mm_base.specs.World.{world_of}
use Rattle.mm_meaning.specs.Run.{Run, Gives, Stops}
use Rattle.mm_core.specs.Tree.{Function, Program}
use Rattle.mm_core.specs.Heads.{is_main}
use Rattle.mm_core.specs.State.{Value, State, Stop, Trapped, Spent}
use Rattle.mm_core.specs.Scalar.{int_value}
use Rattle.mm_core.specs.Meaning.{call_of}

-- How a run ends: with the result of `main`, with a trap, or where a step past the bound is due.
pub data Finish : Type 0 where
  Ended : ℤ → Finish
  TrappedBy : ℕ → Finish
  GoesOn : Finish

-- a run's end, and the numbers put
pub record Outcome : Type 0 where
  pub finish : Finish
  pub put : List ℤ

abbrev pub stopped_by : Stop → Finish
stopped_by (Trapped t) = TrappedBy (code_of t)
stopped_by Spent = GoesOn

abbrev pub outcome_of : Run Stop State Value → Outcome
outcome_of (Gives v s k) = record { finish = Ended (int_value v); put = s.world.put }
outcome_of (Stops t s) = record { finish = stopped_by t; put = s.world.put }

-- the number of `main`, and the number of all functions where it is not defined
abbrev pub number_of_main : List Function → ℕ
number_of_main [] = 0
number_of_main (f ∷ fs) = if f.defined && is_main f then 0 else suc (number_of_main fs)

-- as a run begins there is no object
abbrev pub starting : List ℤ → State
starting input = record { objects = []; world = world_of input }

-- `main` is entered, which is a step; no call goes deeper than the bound.
abbrev pub source_run : Program → List ℤ → ℕ → Outcome
source_run p input n = outcome_of (call_of p n (number_of_main p.functions) [] (starting input) n)
