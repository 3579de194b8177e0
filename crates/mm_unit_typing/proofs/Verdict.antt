-- There is one verdict on a unit.
use Rattle.mm_checks.proofs.Combinators.{exactly_one}
use Rattle.mm_unit_typing.specs.Laws.{OneVerdict}
use Rattle.mm_unit_typing.specs.JudgeUnit.{judge_unit}
use Rattle.mm_unit_typing.proofs.Units.{unit_reads}

pub one_verdict_only : OneVerdict
one_verdict_only u = exactly_one (judge_unit u) _ _ (unit_reads u)
