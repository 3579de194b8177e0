use Rattle.std.proofs.Common.{[], ◌∷◌}
use Rattle.mm_syntax.specs.declared.symbol.Symbol.TheVariants as k
use Rattle.mm_syntax.specs.Rules.{parameters}
use Rattle.mm_cursor.proofs.Steps.{err_take, tail}
use Rattle.mm_parse_function.specs.Parts.{inside_parameters}
use Rattle.mm_parse_function.proofs.ParamExits.{parameters_no_open, parameters_no_inside, parameters_reads}
use Rattle.mm_parse_function.proofs.params.parameters.Goals as goal

pub returns-in_err-take-clause-reads : goal.returns-in_err-take-clause-reads
returns-in_err-take-clause-reads c =
    err_take (k.Open ∷ []) parameters _ _ _ _ _ c.from_residual.ensures.1 c.in_err-take.ensures.reads λ f. parameters_no_open _ _ f

pub returns-clause-reads : goal.returns-clause-reads
returns-clause-reads c =
    tail inside_parameters parameters _ _ _ _ c.inside.ensures.reads (λ v a. parameters_reads _ _ _ _ v c.in_ok-take.ensures.reads a) (λ f. parameters_no_inside _ _ _ _ c.in_ok-take.ensures.reads f)
