use Rattle.std.proofs.Common.{[], ◌∷◌}
use Rattle.mm_grammar.specs.Grammar.{name}
use Rattle.mm_syntax.specs.declared.symbol.Symbol.TheVariants as k
use Rattle.mm_syntax.specs.Rules.{var, expr_stmt, for_start}
use Rattle.mm_cursor.proofs.Steps.{err, eats_some, eats_none}
use Rattle.mm_parse_var.proofs.Choice.{seen, unseen, for_nothing, for_var, for_no_var, for_expr, for_no_expr}
use Rattle.mm_parse_var.proofs.simple.for_start.Goals as goal

pub returns-then-is_some-clause-reads : goal.returns-then-is_some-clause-reads
returns-then-is_some-clause-reads c =
    let x = eats_some (k.Semicolon ∷ []) _ _ _ c.if-is_some.ensures c.eat.ensures in
    for_nothing _ _ _ _ x.1 c.in_ok-new.ensures

pub returns-in_err-variables-clause-reads : goal.returns-in_err-variables-clause-reads
returns-in_err-variables-clause-reads c =
    let n = eats_none (k.Semicolon ∷ []) _ _ _ c.if-is_some.ensures c.eat.ensures in
    err (name var) for_start _ _ _ _ _ c.from_residual-in_err-variables.ensures.1 c.in_err-variables.ensures.reads λ f. for_no_var _ _ _ n (seen _ _ c.rest.ensures c.if-begins_variables.ensures) f

pub returns-then-begins_variables-clause-reads : goal.returns-then-begins_variables-clause-reads
returns-then-begins_variables-clause-reads c =
    let n = eats_none (k.Semicolon ∷ []) _ _ _ c.if-is_some.ensures c.eat.ensures in
    for_var _ _ _ _ _ n (seen _ _ c.rest.ensures c.if-begins_variables.ensures) c.in_ok-variables.ensures.reads c.in_ok-variables_first.ensures

pub returns-in_err-value-clause-reads : goal.returns-in_err-value-clause-reads
returns-in_err-value-clause-reads c =
    let n = eats_none (k.Semicolon ∷ []) _ _ _ c.if-is_some.ensures c.eat.ensures in
    err expr_stmt for_start _ _ _ _ _ c.from_residual-in_err-value.ensures.1 c.in_err-value.ensures.reads λ f. for_no_expr _ _ _ n (unseen _ _ c.rest.ensures c.if-begins_variables.ensures) f

pub returns-clause-reads : goal.returns-clause-reads
returns-clause-reads c =
    let n = eats_none (k.Semicolon ∷ []) _ _ _ c.if-is_some.ensures c.eat.ensures in
    for_expr _ _ _ _ _ n (unseen _ _ c.rest.ensures c.if-begins_variables.ensures) c.in_ok-value.ensures.reads c.in_ok-expr_first.ensures
