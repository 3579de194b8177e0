use Rattle.std.proofs.Common.{[], ◌∷◌}
use Rattle.mm_syntax.specs.declared.symbol.Symbol.TheVariants as k
use Rattle.mm_syntax.specs.Rules.{parameters, constructor_body}
use Rattle.mm_cursor.proofs.Steps.{err, err_take}
use Rattle.mm_parse_function.specs.Parts.{constructor_tail}
use Rattle.mm_parse_function.proofs.FunctionExits.{tail_no_class, tail_no_params, tail_no_body, tail_reads}
use Rattle.mm_parse_function.proofs.function.constructor_tail.Goals as goal

pub returns-in_err-class-clause-reads : goal.returns-in_err-class-clause-reads
returns-in_err-class-clause-reads c =
    err_take (k.Class ∷ []) (constructor_tail c.args.nesting) _ _ _ _ _ c.from_residual.ensures.1 c.in_err-class.ensures.reads λ f. tail_no_class c.args.nesting _ _ f

pub returns-in_err-params-clause-reads : goal.returns-in_err-params-clause-reads
returns-in_err-params-clause-reads c =
    err parameters (constructor_tail c.args.nesting) _ _ _ _ _ c.from_residual-in_err-params.ensures.1 c.in_err-params.ensures.reads λ f. tail_no_params c.args.nesting _ _ _ _ c.in_ok-class.ensures.reads f

pub returns-in_err-body-clause-reads : goal.returns-in_err-body-clause-reads
returns-in_err-body-clause-reads c =
    err (constructor_body c.args.nesting) (constructor_tail c.args.nesting) _ _ _ _ _ c.from_residual-in_err-body.ensures.1 c.in_err-body.ensures.reads λ f. tail_no_body c.args.nesting _ _ _ _ _ _ c.in_ok-class.ensures.reads c.in_ok-params.ensures.reads f

pub returns-clause-reads : goal.returns-clause-reads
returns-clause-reads c =
    tail_reads c.args.nesting _ _ _ _ _ _ _ _ c.in_ok-class.ensures.reads c.in_ok-params.ensures.reads c.in_ok-body.ensures.reads c.in_ok-constructor_tail.ensures
