-- What a unit keeps that was read from tokens, whatever it says. Own.
use Rattle.mm_token.specs.declared.token.Tokens.{Tokens}
use Rattle.mm_syntax.specs.declared.decl.Unit.{Unit as UnitTree}
use Rattle.mm_syntax.specs.Limits.{IsWithinLimits}
use Rattle.mm_parse_unit.specs.Units.{IsTreeOf}

abbrev pub KeepsBounds : Type 0
KeepsBounds = (tokens : Tokens) (tree : UnitTree) → IsTreeOf tokens tree → IsWithinLimits tree
