-- What each command comes to. (Own.)
use Rattle.std.specs.Prelude.{◌≡◌, ◌+◌, ◌<◌, ◌≤◌, ℕ, ℤ, List, length, Option, Some, None, IfSome, IfNone, codes}
use Rattle.mm_base.specs.Outside.{Contents, FilesSeen, SourceSeen, RoseBy}
use Rattle.mm_base.specs.Input.{AreNumbers, IsFirstBad}
use Rattle.mm_base.specs.declared.limits.TheConstants.{MAX_UNIT_BYTES, MAX_C_BYTES, MAX_INPUT_BYTES}
use Rattle.mm_core.specs.Run.{source_run}
use Rattle.mm_c.specs.Tree as c
use Rattle.mm_c.specs.CRun.{Outcome, c_run}
use Rattle.mm_c.specs.Tokens.{Place}
use Rattle.mm_c.specs.Spelling.{SpellsProgram, RefusedAt}
use Rattle.mm_agree.specs.Translates.{outcome_in_c}
use Rattle.mm_token.specs.Tokens.{Holds}
use Rattle.mm_command.specs.declared.words.Command.{Command}
use Rattle.mm_command.specs.declared.words.Command.TheVariants.{Check, Link, Run, Exec}
use Rattle.mm_command.specs.Outside.{Change, FilesFailed, InputFailed, DrewPast}
use Rattle.mm_command.specs.Due.{Due, Refused, Accepted, Translated, Ran, usage}
use Rattle.mm_verdict.specs.Verdict.{Verdict, Missing, Unread, Long, Faulty, Sound, HasVerdict, HasCause, unbuilt_in_check, unbuilt_in_link}
use Rattle.mm_top.specs.Messages.{no_file, read_failed, too_long, fault_message, bad_line, input_failed, bad_text}

-- ---- the input of a run

-- What is found of it: these numbers; the first line that is none; that it is past its limit; or
-- its reading failed.
pub data Input : Type 0 where
  Numbers : List ℤ → Input
  BadLine : ℕ → Input
  LongInput : Input
  UnreadInput : Input

-- what is left of the input are these bytes, within the limit; an input that doesn't tell has some
abbrev pub IsWhole : Option (List ℕ) → List ℕ → Type 0
IsWhole left bytes = IfSome left (λ l. l ≡ bytes) × (length bytes ≤ MAX_INPUT_BYTES)

abbrev pub HasInput : Option (List ℕ) → Input → Type 0
HasInput left (Numbers ns) = (bytes : List ℕ) × IsWhole left bytes × AreNumbers bytes ns
HasInput left (BadLine n) = (bytes : List ℕ) × IsWhole left bytes × IsFirstBad bytes n
HasInput left LongInput = IfSome left (λ l. MAX_INPUT_BYTES < length l)
HasInput left UnreadInput = Unit {0}

-- what the counts of the input show of it
abbrev pub InputCause : Change SourceSeen → Input → Type 0
InputCause i (Numbers ns) = Unit {0}
InputCause i (BadLine n) = Unit {0}
InputCause i LongInput = IfNone i.old.left (RoseBy (MAX_INPUT_BYTES + 1) i.old.drawn i.new.drawn)
InputCause i UnreadInput = InputFailed i

-- ---- the C text of `exec`

-- What is found of it: no file; a failed read; that it is past its limit; that it spells no program,
-- with the place where it is refused; or its program.
pub data CText : Type 0 where
  NoText : CText
  UnreadText : CText
  LongText : CText
  BadText : Place → CText
  GoodText : c.Program → CText

-- the bytes of the file of this name, within the limit; any where the files don't tell
abbrev pub IsTextOf : Option Contents → List ℕ → List ℕ → Type 0
IsTextOf held name text = Holds held name text × (length text ≤ MAX_C_BYTES)

abbrev pub HasText : Option Contents → List ℕ → CText → Type 0
HasText held name NoText = IfSome held (λ h. h name ≡ None)
HasText held name UnreadText = Unit {0}
HasText held name LongText =
    IfSome held (λ h. (text : List ℕ) × (h name ≡ Some text) × (MAX_C_BYTES < length text))
HasText held name (BadText place) =
    (text : List ℕ) × IsTextOf held name text × RefusedAt text place
HasText held name (GoodText q) =
    (text : List ℕ) × IsTextOf held name text × SpellsProgram text q

abbrev pub TextCause : Change FilesSeen → CText → Type 0
TextCause files NoText = IfNone files.old.held (FilesFailed files)
TextCause files UnreadText = FilesFailed files
TextCause files LongText = IfNone files.old.held (DrewPast MAX_C_BYTES files)
TextCause files (BadText place) = Unit {0}
TextCause files (GoodText q) = Unit {0}

-- ---- what is made of what is found

-- of a unit that isn't sound; of one that is, its C text
abbrev pub refused : Verdict → Due
refused (Missing file) = Refused 3 (no_file file)
refused (Unread file) = Refused 3 (read_failed file)
refused (Long file) = Refused 13 (too_long file MAX_UNIT_BYTES)
refused (Faulty f) = Refused 1 (fault_message f)
refused (Sound p) = Translated p

-- of a unit that is checked
abbrev pub checked : Verdict → Due
checked (Sound p) = Accepted
checked v = refused v

-- of a run, by its outcome on the numbers of the input
abbrev pub ran : (List ℤ → Outcome) → Input → Due
ran run (Numbers ns) = Ran (run ns)
ran run (BadLine n) = Refused 10 (bad_line n)
ran run LongInput = Refused 13 (too_long (codes "input") MAX_INPUT_BYTES)
ran run UnreadInput = Refused 11 input_failed

-- of a run on the input that is there
abbrev pub Runs : (List ℤ → Outcome) → Change SourceSeen → Due → Type 0
Runs run i d = (found : Input) × HasInput i.old.left found × InputCause i found × (d ≡ ran run found)

-- `run` runs the program of a sound unit as the source means it
abbrev pub RunsUnit : ℕ → Change SourceSeen → Verdict → Due → Type 0
RunsUnit n i (Missing file) d = d ≡ refused (Missing file)
RunsUnit n i (Unread file) d = d ≡ refused (Unread file)
RunsUnit n i (Long file) d = d ≡ refused (Long file)
RunsUnit n i (Faulty f) d = d ≡ refused (Faulty f)
RunsUnit n i (Sound p) d = Runs (λ ns. outcome_in_c (source_run p ns n)) i d

-- `exec` runs the program that a text spells as C means it
abbrev pub RunsText : List ℕ → ℕ → Change SourceSeen → CText → Due → Type 0
RunsText name n i NoText d = d ≡ Refused 3 (no_file name)
RunsText name n i UnreadText d = d ≡ Refused 3 (read_failed name)
RunsText name n i LongText d = d ≡ Refused 13 (too_long name MAX_C_BYTES)
RunsText name n i (BadText place) d = d ≡ Refused 7 (bad_text name place)
RunsText name n i (GoodText q) d = Runs (λ ns. c_run q ns n) i d

-- ---- commands

-- What a command comes to on these files and this input: words that are none are refused, and each
-- other goes by what is found, of which the counts show the cause.
abbrev pub Comes : Option Command → Change FilesSeen → Change SourceSeen → Due → Type 0
Comes None files input d = d ≡ Refused 2 usage
Comes (Some (Check name)) files input d =
    (v : Verdict) × HasVerdict unbuilt_in_check files.old.held name v × HasCause files v
    × (d ≡ checked v)
Comes (Some (Link name)) files input d =
    (v : Verdict) × HasVerdict unbuilt_in_link files.old.held name v × HasCause files v
    × (d ≡ refused v)
Comes (Some (Run name n)) files input d =
    (v : Verdict) × HasVerdict unbuilt_in_link files.old.held name v × HasCause files v
    × RunsUnit n input v d
Comes (Some (Exec name n)) files input d =
    (t : CText) × HasText files.old.held name t × TextCause files t × RunsText name n input t d
