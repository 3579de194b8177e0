use Rattle.mm_syntax.specs.View.{expr_view}
use Rattle.mm_checks.proofs.Combinators.{answers_as}
use Rattle.mm_typing.specs.Typed.{typed_view}
use Rattle.mm_typing.specs.Judge.{judge}
use Rattle.mm_typing.specs.Typing.{Types, Faults}
use Rattle.mm_typing.proofs.Reading.{reads}
use Rattle.mm_check_expr.proofs.check.check_expr.Goals as goal

pub returns-clause-answers : goal.returns-clause-answers
returns-clause-answers c =
    let env = c.args.env.now in
    let e = expr_view c.args.e.now in
    answers_as typed_view (judge env e) (Types env e) (Faults env e) (reads env e) c.check.result c.check.ensures
