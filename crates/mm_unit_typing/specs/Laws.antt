-- There is one verdict on every unit. Own.
use Rattle.mm_syntax.specs.Tree.{UnitTree}
use Rattle.mm_checks.specs.Checks.{ExactlyOne}
use Rattle.mm_unit_typing.specs.Units.{UnitTypes, UnitFaults}

-- a unit is typed as one thing and has no fault, or it has one first fault and is typed as nothing
abbrev pub OneVerdict : Type 0
OneVerdict = (u : UnitTree) → ExactlyOne (UnitTypes u) (UnitFaults u)
