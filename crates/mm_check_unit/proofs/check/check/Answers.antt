use Rattle.std.proofs.Common.{map}
use Rattle.mm_core.specs.View.{function_view}
use Rattle.mm_syntax.specs.View.{unit_view}
use Rattle.mm_checks.proofs.Combinators.{answers_as}
use Rattle.mm_unit_typing.specs.Units.{unit_of, UnitTypes, UnitFaults}
use Rattle.mm_unit_typing.specs.JudgeUnit.{judge_unit}
use Rattle.mm_unit_typing.proofs.Units.{unit_reads}
use Rattle.mm_check_unit.proofs.check.check.Goals as goal

pub returns-clause-answers : goal.returns-clause-answers
returns-clause-answers c =
    let u = unit_view c.args.unit.now in
    answers_as (λ fs. unit_of u (map function_view fs)) (judge_unit u) (UnitTypes u) (UnitFaults u) (unit_reads u) c.check_functions.result c.check_functions.ensures
