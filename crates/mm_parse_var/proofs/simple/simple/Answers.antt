use Rattle.mm_grammar.specs.Grammar.{name}
use Rattle.mm_syntax.specs.Rules.{var, expr_stmt, simple_stmt}
use Rattle.mm_cursor.proofs.Steps.{err}
use Rattle.mm_parse_var.proofs.Choice.{seen, unseen, simple_var, simple_no_var, simple_expr, simple_no_expr}
use Rattle.mm_parse_var.proofs.simple.simple.Goals as goal

pub returns-in_err-variables-clause-reads : goal.returns-in_err-variables-clause-reads
returns-in_err-variables-clause-reads c =
    err (name var) simple_stmt _ _ _ _ _ c.from_residual.ensures.1 c.in_err-variables.ensures.reads λ f. simple_no_var _ _ (seen _ _ c.rest.ensures c.if-begins_variables.ensures) f

pub returns-then-begins_variables-clause-reads : goal.returns-then-begins_variables-clause-reads
returns-then-begins_variables-clause-reads c =
    simple_var _ _ _ _ (seen _ _ c.rest.ensures c.if-begins_variables.ensures) c.in_ok-variables.ensures.reads c.in_ok-declared.ensures

pub returns-in_err-value-clause-reads : goal.returns-in_err-value-clause-reads
returns-in_err-value-clause-reads c =
    err expr_stmt simple_stmt _ _ _ _ _ c.from_residual-in_err-value.ensures.1 c.in_err-value.ensures.reads λ f. simple_no_expr _ _ (unseen _ _ c.rest.ensures c.if-begins_variables.ensures) f

pub returns-clause-reads : goal.returns-clause-reads
returns-clause-reads c =
    simple_expr _ _ _ _ (unseen _ _ c.rest.ensures c.if-begins_variables.ensures) c.in_ok-value.ensures.reads c.in_ok-run.ensures
