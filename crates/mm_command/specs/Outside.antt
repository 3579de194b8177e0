-- What was seen of the objects of the outside, before a command and after it. (Own.)
use Rattle.std.specs.Prelude.{◌≡◌, ℕ, ◌+◌, ◌<◌, ◌⊎◌, List, length, take}
use Rattle.mm_base.specs.Outside.{FilesSeen, SourceSeen, SinkSeen, Rose, RoseBy, grown}
use Rattle.mm_base.specs.Outside as outside

-- what was seen of an object before, and what is seen of it after
pub record Change (Seen : Type 0) : Type 0 where
  pub old : Seen
  pub new : Seen

pub record Outside : Type 0 where
  pub files : Change FilesSeen
  pub input : Change SourceSeen
  pub out : Change SinkSeen
  pub err : Change SinkSeen

-- ---- faults

abbrev pub FilesFailed : Change FilesSeen → Type 0
FilesFailed f = Rose f.old.faults f.new.faults

abbrev pub InputFailed : Change SourceSeen → Type 0
InputFailed i = Rose i.old.faults i.new.faults

abbrev pub SinkFailed : Change SinkSeen → Type 0
SinkFailed s = Rose s.old.faults s.new.faults

-- more was read of files, or of the input, than so many bytes
abbrev pub DrewPast : ℕ → Change FilesSeen → Type 0
DrewPast most f = RoseBy (most + 1) f.old.drawn f.new.drawn

-- ---- outputs

-- the output is as it was
abbrev pub IsSame : Change SinkSeen → Type 0
IsSame s = s.new.got ≡ s.old.got

-- it grew by exactly this text
abbrev pub Grew : List ℕ → Change SinkSeen → Type 0
Grew text s = outside.Grew text s.old s.new

-- it grew by a front of this text
abbrev pub GrewFront : List ℕ → Change SinkSeen → Type 0
GrewFront text s = outside.GrewFront text s.old s.new

-- it grew by a front of this text that isn't the whole
abbrev pub GrewPart : List ℕ → Change SinkSeen → Type 0
GrewPart text s = (k : ℕ) × (k < length text) × (s.new.got ≡ grown s.old.got (take k text))

-- The whole message was put, or a front of it where the output failed.
abbrev pub Says : List ℕ → Change SinkSeen → Type 0
Says message err = Grew message err ⊎ (GrewFront message err × SinkFailed err)
