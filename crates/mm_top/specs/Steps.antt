-- What the steps of commands leave for the next.
use Rattle.std.specs.Prelude.{Option}
use Rattle.mm_base.specs.Outside.{FilesSeen, SourceSeen}
use Rattle.mm_verdict.specs.declared.fault.Refusal.{Refusal}
use Rattle.mm_verdict.specs.declared.fault.Refusal.TheVariants as refusal
use Rattle.mm_verdict.specs.Verdict.{Missing, Unread, Long, Faulty}
use Rattle.mm_command.specs.declared.words.Command.{Command}
use Rattle.mm_command.specs.declared.writing.Outcome.{Outcome}
use Rattle.mm_command.specs.Outside.{Change}
use Rattle.mm_command.specs.Due.{Due}
use Rattle.mm_command.specs.Writing.{IsOutcome}
use Rattle.mm_top.specs.Comes.{refused, Comes}

-- the outcome is what the command comes to
abbrev pub ComesTo : Option Command → Change FilesSeen → Change SourceSeen → Outcome → Type 0
ComesTo asked files input x = (d : Due) × Comes asked files input d × IsOutcome d x

-- the outcome of a unit that is refused so
abbrev pub IsRefusal : Refusal → Outcome → Type 0
IsRefusal (refusal.Missing file) x = IsOutcome (refused (Missing file)) x
IsRefusal (refusal.Unread file) x = IsOutcome (refused (Unread file)) x
IsRefusal (refusal.Long file) x = IsOutcome (refused (Long file)) x
IsRefusal (refusal.Faulty f) x = IsOutcome (refused (Faulty f)) x
IsRefusal refusal.NoMemory x = ⊥
