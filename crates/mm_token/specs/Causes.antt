-- Why files weren't read, and what reading leaves as it was.
use Rattle.std.specs.Prelude.{◌≡◌, ◌+◌, ◌≤◌, MatchOption}
use Rattle.mm_base.specs.Outside.{FilesSeen, Rose, RoseBy}
use Rattle.mm_base.specs.declared.limits.TheConstants.{MAX_UNIT_BYTES}
use Rattle.mm_token.specs.declared.token.TokenEnd.{TokenEnd}
use Rattle.mm_token.specs.declared.token.TokenEnd.TheVariants.{Absent, Failed, TooLong}

-- Where the files tell nothing, an absent one comes only where their faults rose, and one that is too long only where
-- more than the limit was drawn; a failed read comes only where their faults rose.
abbrev pub HasCause : TokenEnd → FilesSeen → FilesSeen → Type 0
HasCause (Absent n p) old new = MatchOption old.held (Rose old.faults new.faults) (λ _. Unit {0})
HasCause (TooLong n) old new = MatchOption old.held (RoseBy (MAX_UNIT_BYTES + 1) old.drawn new.drawn) (λ _. Unit {0})
HasCause (Failed n) old new = Rose old.faults new.faults
HasCause _ old new = Unit {0}

-- The files tell what they told, and their counters never fall.
pub record AreKept (old new : FilesSeen) : Type 0 where
  pub same : new.held ≡ old.held
  pub later : old.faults ≤ new.faults
  pub more : old.drawn ≤ new.drawn
