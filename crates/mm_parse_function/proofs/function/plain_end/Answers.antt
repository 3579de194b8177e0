use Rattle.mm_syntax.specs.Rules.{parameters, function_body}
use Rattle.mm_cursor.proofs.Steps.{err}
use Rattle.mm_parse_function.specs.Parts.{plain_end}
use Rattle.mm_parse_function.proofs.FunctionExits.{plain_no_params, plain_no_body, plain_reads}
use Rattle.mm_parse_function.proofs.function.plain_end.Goals as goal

pub returns-in_err-params-clause-reads : goal.returns-in_err-params-clause-reads
returns-in_err-params-clause-reads c =
    err parameters (plain_end c.args.nesting c.args.word.now) _ _ _ _ _ c.from_residual.ensures.1 c.in_err-params.ensures.reads λ f. plain_no_params c.args.nesting c.args.word.now _ _ f

pub returns-in_err-body-clause-reads : goal.returns-in_err-body-clause-reads
returns-in_err-body-clause-reads c =
    err (function_body c.args.nesting) (plain_end c.args.nesting c.args.word.now) _ _ _ _ _ c.from_residual-in_err-body.ensures.1 c.in_err-body.ensures.reads λ f. plain_no_body c.args.nesting c.args.word.now _ _ _ _ c.in_ok-params.ensures.reads f

pub returns-clause-reads : goal.returns-clause-reads
returns-clause-reads c =
    plain_reads c.args.nesting c.args.word.now _ _ _ _ _ _ c.in_ok-params.ensures.reads c.in_ok-body.ensures.reads c.in_ok-plain_end.ensures
