-- What a command comes to, and how that is written. (Own.)
use Rattle.std.specs.Prelude.{◌≡◌, ℕ, ℤ, List, [], ◌++◌, codes}
use Rattle.std.specs.List.{flat_map}
use Rattle.std.specs.Fmt.{decimal, signed_decimal}
use Rattle.mm_base.specs.Outside.{SinkSeen}
use Rattle.mm_core.specs.Tree.{Program}
use Rattle.mm_c.specs.Tree as c
use Rattle.mm_c.specs.CRun as run
use Rattle.mm_c.specs.Spelling.{SpellsProgram}
use Rattle.mm_agree.specs.Translates.{Translates}
use Rattle.mm_command.specs.Outside.{Change, Grew, GrewPart}

-- ---- what a command comes to

-- It is refused, with a status and a message; or the word is due that a unit has no listed fault;
-- or a C text of this program is due; or the lines of this run are.
pub data Due : Type 0 where
  Refused : ℕ → List ℕ → Due
  Accepted : Due
  Translated : Program → Due
  Ran : run.Outcome → Due

-- ---- C texts

-- The text spells a C program that, for every input and at every bound on the steps, ends, traps or
-- goes on as the program does, puts the same numbers, and is never stuck.
pub record IsTranslation (p : Program) (text : List ℕ) : Type 0 where
  pub program : c.Program
  pub spells : SpellsProgram text program
  pub translates : Translates p program

-- ---- runs

-- a number on a line
abbrev pub line_of : ℤ → List ℕ
line_of z = signed_decimal z ++ codes "\n"

-- how a run ended, on the last line
abbrev pub last_line : run.Finish → List ℕ
last_line (run.Ended z) = codes "result " ++ line_of z
last_line (run.TrappedBy k) = codes "trap " ++ decimal k ++ codes "\n"
last_line run.GoesOn = codes "steps spent\n"
last_line run.IsStuck = codes "stuck\n"

-- the numbers put, each on a line, and then the end
abbrev pub lines_of : run.Outcome → List ℕ
lines_of o = flat_map line_of o.put ++ last_line o.finish

abbrev pub status_of_run : run.Finish → ℕ
status_of_run (run.Ended z) = 0
status_of_run (run.TrappedBy k) = 5
status_of_run run.GoesOn = 6
status_of_run run.IsStuck = 12

-- ---- units without a fault

-- what is said of one
abbrev pub ok : List ℕ
ok = codes "ok\n"

-- ---- how it is written

abbrev pub status_of : Due → ℕ
status_of (Refused status message) = status
status_of Accepted = 0
status_of (Translated p) = 0
status_of (Ran o) = status_of_run o.finish

abbrev pub message_of : Due → List ℕ
message_of (Refused status message) = message
message_of Accepted = []
message_of (Translated p) = []
message_of (Ran o) = []

-- the text that is due on the output
abbrev pub IsText : Due → List ℕ → Type 0
IsText (Refused status message) text = text ≡ []
IsText Accepted text = text ≡ ok
IsText (Translated p) text = IsTranslation p text
IsText (Ran o) text = text ≡ lines_of o

-- a text is due
abbrev pub HasText : Due → Type 0
HasText (Refused status message) = ⊥
HasText Accepted = Unit {0}
HasText (Translated p) = Unit {0}
HasText (Ran o) = Unit {0}

-- the text that is due was put whole; only a part of it was
abbrev pub Writes : Due → Change SinkSeen → Type 0
Writes d out = (text : List ℕ) × IsText d text × Grew text out

abbrev pub WritesPart : Due → Change SinkSeen → Type 0
WritesPart d out = (text : List ℕ) × IsText d text × GrewPart text out

-- ---- messages

abbrev pub usage : List ℕ
usage = codes "mmc: usage\n"

abbrev pub write_failed : List ℕ
write_failed = codes "mmc: write failed\n"

abbrev pub no_memory : List ℕ
no_memory = codes "mmc: no memory\n"
