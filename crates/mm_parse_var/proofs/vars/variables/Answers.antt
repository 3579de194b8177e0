use Rattle.mm_grammar.specs.Grammar.{name}
use Rattle.mm_syntax.specs.Rules.{type_name, var}
use Rattle.mm_cursor.proofs.Steps.{err}
use Rattle.mm_parse_var.specs.Parts.{declarators}
use Rattle.mm_parse_var.proofs.Exits.{variables_no_type, variables_no_names, variables_read}
use Rattle.mm_parse_var.proofs.vars.variables.Goals as goal

pub returns-in_err-type_name-clause-reads : goal.returns-in_err-type_name-clause-reads
returns-in_err-type_name-clause-reads c =
    err (name type_name) (name var) _ _ _ _ _ c.from_residual.ensures.1 c.in_err-type_name.ensures.reads λ f. variables_no_type _ _ f

pub returns-in_err-names-clause-reads : goal.returns-in_err-names-clause-reads
returns-in_err-names-clause-reads c =
    err declarators (name var) _ _ _ _ _ c.from_residual-in_err-names.ensures.1 c.in_err-names.ensures.reads λ f. variables_no_names _ _ _ _ c.in_ok-type_name.ensures.reads f

pub returns-clause-reads : goal.returns-clause-reads
returns-clause-reads c =
    variables_read _ _ _ _ _ _ c.in_ok-type_name.ensures.reads c.in_ok-names.ensures.reads c.in_ok-variables.ensures
