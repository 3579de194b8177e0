-- What the steps of the run of a C text leave for the next.
use Rattle.std.specs.Prelude.{ℕ, List}
use Rattle.mm_base.specs.Outside.{SourceSeen}
use Rattle.mm_c.specs.Spelling.{SpellsProgram, RefusedAt}
use Rattle.mm_command.specs.declared.writing.Outcome.{Outcome}
use Rattle.mm_command.specs.Outside.{Change}
use Rattle.mm_c_text.specs.Places.{at}
use Rattle.mm_c_read.specs.declared.ReadEnd.{ReadEnd}
use Rattle.mm_c_read.specs.declared.ReadEnd.TheVariants as read_end
use Rattle.mm_command.specs.Due.{Due, Refused}
use Rattle.mm_command.specs.Writing.{IsOutcome}
use Rattle.mm_top.specs.Messages.{bad_text}
use Rattle.mm_top.specs.Comes.{CText, BadText, GoodText, RunsText}

-- the text is one that is refused, or that spells a program
abbrev pub IsReadAs : List ℕ → CText → Type 0
IsReadAs text (BadText place) = RefusedAt text place
IsReadAs text (GoodText q) = SpellsProgram text q
IsReadAs text other = ⊥

-- the outcome is what the run of a text of these bytes comes to
abbrev pub RunsBytes : List ℕ → List ℕ → ℕ → Change SourceSeen → Outcome → Type 0
RunsBytes name text n i x =
    (t : CText) × IsReadAs text t × (d : Due) × RunsText name n i t d × IsOutcome d x

-- the outcome of a text that gives no program
abbrev pub RefusesText : List ℕ → ReadEnd → Outcome → Type 0
RefusesText name (read_end.Refused p) x = IsOutcome (Refused 7 (bad_text name (at p))) x
RefusesText name read_end.NoMemory x = ⊥
