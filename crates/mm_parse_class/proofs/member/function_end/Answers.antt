use Rattle.std.proofs.Common.{refl}
use Rattle.mm_syntax.specs.Rules.{parameters}
use Rattle.mm_cursor.proofs.Steps.{err}
use Rattle.mm_parse_class.specs.Parts.{method_rest, function_end}
use Rattle.mm_parse_class.proofs.Turns as turn
use Rattle.mm_parse_class.proofs.member.function_end.Goals as goal

pub returns-in_err-params-clause-reads : goal.returns-in_err-params-clause-reads
returns-in_err-params-clause-reads c =
    err parameters (function_end c.args.nesting) _ _ _ _ _ c.from_residual.ensures.1 c.in_err-params.ensures.reads λ f. turn.two_first _ _ _ refl _ _ f

pub returns-in_err-body-clause-reads : goal.returns-in_err-body-clause-reads
returns-in_err-body-clause-reads c =
    err (method_rest c.args.nesting) (function_end c.args.nesting) _ _ _ _ _ c.from_residual-in_err-body.ensures.1 c.in_err-body.ensures.reads λ f. turn.two_second _ _ _ refl _ _ _ _ c.in_ok-params.ensures.reads f

pub returns-clause-reads : goal.returns-clause-reads
returns-clause-reads c =
    turn.two _ _ _ refl _ _ _ _ _ _ c.in_ok-params.ensures.reads c.in_ok-body.ensures.reads c.in_ok-function_end.ensures
