-- What the steps of a run leave for the next.
use Rattle.std.specs.Prelude.{ℤ, List}
use Rattle.mm_base.specs.Outside.{SourceSeen}
use Rattle.mm_base.specs.declared.input.InputEnd.{InputEnd}
use Rattle.mm_base.specs.declared.input.InputEnd.TheVariants as end
use Rattle.mm_c.specs.CRun.{Outcome}
use Rattle.mm_c_machine.specs.declared.run.End.{End}
use Rattle.mm_c_machine.specs.Runs.{finish_of}
use Rattle.mm_command.specs.Outside.{Change}
use Rattle.mm_command.specs.Due.{Due}
use Rattle.mm_command.specs.declared.writing.Outcome as written
use Rattle.mm_command.specs.Writing.{IsOutcome}
use Rattle.mm_top.specs.Comes.{BadLine, LongInput, UnreadInput, ran, Runs}

-- the outcome of a run that ends so and put these numbers
abbrev pub outcome_with : End → List ℤ → Outcome
outcome_with e put = record { finish = finish_of e; put = put }

-- the outcome is what the run comes to on this input
abbrev pub RunsTo : (List ℤ → Outcome) → Change SourceSeen → written.Outcome → Type 0
RunsTo run i x = (d : Due) × Runs run i d × IsOutcome d x

-- the outcome of an input that gives no numbers, whatever would run
abbrev pub RefusesInput : InputEnd → written.Outcome → Type 0
RefusesInput (end.BadLine n) x = (run : List ℤ → Outcome) → IsOutcome (ran run (BadLine n)) x
RefusesInput end.TooLong x = (run : List ℤ → Outcome) → IsOutcome (ran run LongInput) x
RefusesInput end.Failed x = (run : List ℤ → Outcome) → IsOutcome (ran run UnreadInput) x
RefusesInput end.NoMemory x = ⊥
