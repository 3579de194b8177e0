-- What the writing of an outcome leaves for the proof of the answers.
use Rattle.std.specs.Prelude.{◌≡◌, ◌⊎◌, ℕ, List}
use Rattle.mm_base.specs.declared.writing.WriteEnd.{WriteEnd}
use Rattle.mm_base.specs.declared.writing.WriteEnd.TheVariants.{Done, Failed, NoMemory}
use Rattle.mm_base.specs.Outside.{SinkSeen}
use Rattle.mm_command.specs.declared.writing.Outcome.{Outcome}
use Rattle.mm_command.specs.Outside.{Change, SinkFailed, Grew, GrewPart, Says}
use Rattle.mm_command.specs.Due.{Due, status_of, message_of, IsText, write_failed, no_memory}

-- the writing of a whole text, by its answer
abbrev pub WritesText : WriteEnd → List ℕ → Change SinkSeen → Type 0
WritesText Done text s = Grew text s
WritesText Failed text s = GrewPart text s × SinkFailed s
WritesText NoMemory text s = GrewPart text s

-- a status came with its message; or memory ran out behind a part of that
abbrev pub Reports : ℕ → List ℕ → ℕ → Change SinkSeen → Type 0
Reports due message status err =
    ((status ≡ due) × Says message err) ⊎ ((status ≡ 9) × GrewPart message err)

-- The text was put whole, and then the message; or the output failed behind a part of the text, or
-- had no memory, which was reported.
abbrev pub Finishes : Outcome → ℕ → Change SinkSeen → Change SinkSeen → Type 0
Finishes x status out err =
    (Grew x.text.items out × Reports x.status x.message.items status err)
    ⊎ (GrewPart x.text.items out × SinkFailed out × Reports 4 write_failed status err)
    ⊎ (GrewPart x.text.items out × Reports 9 no_memory status err)

-- the outcome is what a command comes to
pub record IsOutcome (d : Due) (x : Outcome) : Type 0 where
  pub status : x.status ≡ status_of d
  pub text : IsText d x.text.items
  pub message : x.message.items ≡ message_of d
