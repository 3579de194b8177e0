-- Which status is answered when, and what stands on the outputs after it. (Own.)
use Rattle.std.specs.Prelude.{◌≡◌, ◌≢◌, ◌⊎◌, ℕ, ◌≤◌, List, Option, Some, None}
use Rattle.mm_base.specs.Outside.{Contents, FilesSeen, SourceSeen}
use Rattle.mm_base.specs.Input.{TakesSome}
use Rattle.mm_command.specs.declared.words.Command.{Command}
use Rattle.mm_command.specs.declared.words.Command.TheVariants.{Check, Link, Run, Exec}
use Rattle.mm_command.specs.Outside.{Change, Outside, FilesFailed, InputFailed, SinkFailed, IsSame, GrewFront, GrewPart, Says}
use Rattle.mm_command.specs.Due.{Due, status_of, message_of, HasText, Writes, WritesPart, write_failed, no_memory}

-- ---- the input, by what is asked

-- a run takes its input, at most one byte past the limit; nothing else touches it
abbrev pub InputKept : Option Command → Change SourceSeen → Type 0
InputKept None i = i.new ≡ i.old
InputKept (Some (Check name)) i = i.new ≡ i.old
InputKept (Some (Link name)) i = i.new ≡ i.old
InputKept (Some (Run name n)) i = TakesSome i.old i.new × (i.old.faults ≤ i.new.faults)
InputKept (Some (Exec name n)) i = TakesSome i.old i.new × (i.old.faults ≤ i.new.faults)

-- a run's input tells what is left of it, and didn't fail
abbrev pub TellsInput : Change SourceSeen → Type 0
TellsInput i = ((bytes : List ℕ) × (i.old.left ≡ Some bytes)) × (InputFailed i → ⊥)

abbrev pub InputTells : Option Command → Change SourceSeen → Type 0
InputTells None i = Unit {0}
InputTells (Some (Check name)) i = Unit {0}
InputTells (Some (Link name)) i = Unit {0}
InputTells (Some (Run name n)) i = TellsInput i
InputTells (Some (Exec name n)) i = TellsInput i

-- the files tell what they hold, a run's input what is left of it, and neither failed
pub record AreTold (asked : Option Command) (files : Change FilesSeen) (input : Change SourceSeen) : Type 0 where
  pub held : (h : Contents) × (files.old.held ≡ Some h)
  pub read : FilesFailed files → ⊥
  pub left : InputTells asked input

-- what is the same after every answer, and which counts never fall
pub record AreKept (asked : Option Command) (o : Outside) : Type 0 where
  pub held : o.files.new.held ≡ o.files.old.held
  pub files : o.files.old.faults ≤ o.files.new.faults
  pub drawn : o.files.old.drawn ≤ o.files.new.drawn
  pub input : InputKept asked o.input
  pub out : o.out.old.faults ≤ o.out.new.faults
  pub err : o.err.old.faults ≤ o.err.new.faults

-- ---- the answers

-- After want of memory the output is as it was, or has a part of the text that was due; err has a
-- front of the message on memory, or a part of the message that was due.
pub record LeavesOff (Comes : Due → Type 0) (o : Outside) : Type 0 where
  pub out : IsSame o.out ⊎ ((d : Due) × Comes d × WritesPart d o.out)
  pub err : GrewFront no_memory o.err ⊎ (SinkFailed o.out × GrewPart write_failed o.err)
      ⊎ ((d : Due) × Comes d × GrewPart (message_of d) o.err)

-- Which status is answered, of a command that comes to what `Comes` says.
pub record Answers (Comes : Due → Type 0) (status : ℕ) (asked : Option Command) (o : Outside) : Type 0 where
  -- Any status but 4 and 9 is that of what the command comes to. Then the output grew by exactly
  -- the text that is due, and err by the message, or by a front of it where err failed.
  pub done : status ≢ 4 → status ≢ 9 → (d : Due) × Comes d × (status ≡ status_of d) × Writes d o.out × Says (message_of d) o.err
  -- 4: the output failed, behind a part of the text that is due
  pub unwritten : status ≡ 4 → (d : Due) × Comes d × WritesPart d o.out × SinkFailed o.out × Says write_failed o.err
  -- 9: memory ran out
  pub no_memory : status ≡ 9 → LeavesOff Comes o
  -- The other way: on files and an input that tell what they hold and don't fail, the status is
  -- that of what the command comes to, unless memory ran out. Where a text is due, this is said
  -- where the output didn't fail either.
  pub complete : (d : Due) → Comes d → AreTold asked o.files o.input → (HasText d → SinkFailed o.out → ⊥) → (status ≡ status_of d) ⊎ (status ≡ 9)
  pub kept : AreKept asked o
