use Rattle.mm_core.specs.View.{expr_view as core_view}
use Rattle.mm_syntax.specs.View.{expr_view}
use Rattle.mm_checks.proofs.Combinators.{answers_as}
use Rattle.mm_typing.specs.Judge.{judge_as}
use Rattle.mm_typing.specs.Typing.{TypesAs, FaultsAs}
use Rattle.mm_typing.proofs.Reading.{as_reads}
use Rattle.mm_check_expr.proofs.check.check_as.Goals as goal

pub returns-clause-answers : goal.returns-clause-answers
returns-clause-answers c =
    let env = c.args.env.now in
    let e = expr_view c.args.e.now in
    answers_as core_view (judge_as env c.args.to e) (TypesAs env c.args.to e) (FaultsAs env c.args.to e) (as_reads env c.args.to e) c.check_to.result c.check_to.ensures
