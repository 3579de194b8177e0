-- When a C program translates a checked program. (Own.)
use Rattle.std.specs.Prelude.{◌≡◌, ◌≢◌, ℕ, ℤ, IsTrue, List}
use Rattle.mm_base.specs.Num.{is_int}
use Rattle.mm_classes.specs.Lists.{Has}
use Rattle.mm_core.specs.Tree as source
use Rattle.mm_core.specs.Run as by
use Rattle.mm_core.specs.Run.{source_run}
use Rattle.mm_c.specs.Tree as c
use Rattle.mm_c.specs.CRun as run
use Rattle.mm_c.specs.CRun.{c_run}

-- the end of C that stands for an end of the source: the same, with the same number; none is stuck
abbrev pub finish_in_c : by.Finish → run.Finish
finish_in_c (by.Ended z) = run.Ended z
finish_in_c (by.TrappedBy k) = run.TrappedBy k
finish_in_c by.GoesOn = run.GoesOn

-- the same end, and the same numbers put
abbrev pub outcome_in_c : by.Outcome → run.Outcome
outcome_in_c o = record { finish = finish_in_c o.finish; put = o.put }

-- an input, which is a list of numbers that an `int` holds
abbrev pub IsInput : List ℤ → Type 0
IsInput input = (z : ℤ) → Has input z → IsTrue (is_int z)

-- For every input and every bound on the steps, the C program ends, traps or goes on as the source
-- does, with the same number and the same numbers put; and it is never stuck.
pub record Translates (p : source.Program) (q : c.Program) : Type 0 where
  pub agrees : (input : List ℤ) (n : ℕ) → IsInput input →
      c_run q input n ≡ outcome_in_c (source_run p input n)
  pub never_stuck : (input : List ℤ) (n : ℕ) → IsInput input →
      (c_run q input n).finish ≢ run.IsStuck
