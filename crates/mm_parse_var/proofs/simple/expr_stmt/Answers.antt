use Rattle.std.proofs.Common.{[], ◌∷◌}
use Rattle.mm_grammar.specs.Grammar.{name}
use Rattle.mm_syntax.specs.declared.symbol.Symbol.TheVariants as k
use Rattle.mm_syntax.specs.Rules.{expr, expr_stmt}
use Rattle.mm_cursor.proofs.Steps.{err, err_take}
use Rattle.mm_parse_var.proofs.Exits.{expr_stmt_no_expr, expr_stmt_unended, expr_stmt_reads}
use Rattle.mm_parse_var.proofs.simple.expr_stmt.Goals as goal

pub returns-in_err-value-clause-reads : goal.returns-in_err-value-clause-reads
returns-in_err-value-clause-reads c =
    err (name expr) expr_stmt _ _ _ _ _ c.from_residual.ensures.1 c.in_err-value.ensures.reads λ f. expr_stmt_no_expr _ _ f

pub returns-in_err-take-clause-reads : goal.returns-in_err-take-clause-reads
returns-in_err-take-clause-reads c =
    err_take (k.Semicolon ∷ []) expr_stmt _ _ _ _ _ c.from_residual-in_err-take.ensures.1 c.in_err-take.ensures.reads λ f. expr_stmt_unended _ _ _ _ c.in_ok-value.ensures.reads f

pub returns-clause-reads : goal.returns-clause-reads
returns-clause-reads c =
    expr_stmt_reads _ _ _ _ _ c.in_ok-value.ensures.reads c.in_ok-take.ensures.reads
