-- A command comes to one thing. (Own.)
use Rattle.std.specs.Prelude.{◌≡◌, Option}
use Rattle.mm_base.specs.Outside.{FilesSeen, SourceSeen}
use Rattle.mm_command.specs.declared.words.Command.{Command}
use Rattle.mm_command.specs.Outside.{Change}
use Rattle.mm_command.specs.Due.{Due, status_of}
use Rattle.mm_command.specs.Answers.{AreTold}
use Rattle.mm_top.specs.Comes.{Comes}

-- on files and an input that tell what they hold and don't fail
abbrev pub OneDue : Type 0
OneDue = (asked : Option Command) (files : Change FilesSeen) (input : Change SourceSeen) →
    AreTold asked files input → (d e : Due) → Comes asked files input d → Comes asked files input e →
    d ≡ e

-- what a command comes to has none of the statuses of a failed write and of want of memory
abbrev pub OtherStatus : Type 0
OtherStatus = (asked : Option Command) (files : Change FilesSeen) (input : Change SourceSeen) (d : Due) →
    Comes asked files input d → (status_of d ≡ 4 → ⊥) × (status_of d ≡ 9 → ⊥)
