use Rattle.std.proofs.Common.{[], ◌∷◌}
use Rattle.mm_syntax.specs.declared.symbol.Symbol.TheVariants as k
use Rattle.mm_syntax.specs.Rules.{simple_stmt, maybe_expr}
use Rattle.mm_cursor.proofs.Steps.{err, err_take, tail}
use Rattle.mm_parse_stmt.specs.Parts.{plain}
use Rattle.mm_parse_stmt.proofs.Exits.{plain_empty, plain_break, plain_no_break, plain_continue, plain_no_continue, plain_return, plain_no_return, plain_simple, plain_no_simple}
use Rattle.mm_parse_stmt.proofs.stmt.plain.Goals as goal

pub returns-in-Some-clause-reads : goal.returns-in-Some-clause-reads
returns-in-Some-clause-reads c =
    plain_empty _ _ _ _ c.in-Some.ensures c.in_ok-at_token.ensures

pub returns-in_err-take-clause-reads : goal.returns-in_err-take-clause-reads
returns-in_err-take-clause-reads c =
    err_take (k.Semicolon ∷ []) plain _ _ _ _ _ c.from_residual-in_err-take.ensures.1 c.in_err-take.ensures.reads λ f. plain_no_break _ _ _ _ _ c.in_default.ensures c.in-Some-eat.ensures c.in_err-take.ensures.shorter f

pub returns-in-Some-eat-clause-reads : goal.returns-in-Some-eat-clause-reads
returns-in-Some-eat-clause-reads c =
    plain_break _ _ _ _ _ _ _ c.in_default.ensures c.in-Some-eat.ensures c.in_ok-take.ensures.reads c.in_ok-at_token-2.ensures

pub returns-in_err-take-2-clause-reads : goal.returns-in_err-take-2-clause-reads
returns-in_err-take-2-clause-reads c =
    err_take (k.Semicolon ∷ []) plain _ _ _ _ _ c.from_residual-in_err-take-2.ensures.1 c.in_err-take-2.ensures.reads λ f. plain_no_continue _ _ _ _ _ _ c.in_default.ensures c.in_default-eat.ensures c.in-Some-eat-2.ensures c.in_err-take-2.ensures.shorter f

pub returns-in-Some-eat-2-clause-reads : goal.returns-in-Some-eat-2-clause-reads
returns-in-Some-eat-2-clause-reads c =
    plain_continue _ _ _ _ _ _ _ _ c.in_default.ensures c.in_default-eat.ensures c.in-Some-eat-2.ensures c.in_ok-take-2.ensures.reads c.in_ok-at_token-3.ensures

pub returns-in_err-value-clause-reads : goal.returns-in_err-value-clause-reads
returns-in_err-value-clause-reads c =
    err (maybe_expr k.Semicolon) plain _ _ _ _ _ c.from_residual-in_err-value.ensures.1 c.in_err-value.ensures.reads λ f. plain_no_return _ _ _ _ c.in_default.ensures c.in_default-eat.ensures c.in_default-eat-2.ensures _ _ _ c.in-Some-eat-3.ensures c.in_err-value.ensures.shorter f

pub returns-in-Some-eat-3-clause-reads : goal.returns-in-Some-eat-3-clause-reads
returns-in-Some-eat-3-clause-reads c =
    plain_return _ _ _ _ c.in_default.ensures c.in_default-eat.ensures c.in_default-eat-2.ensures _ _ _ _ _ c.in-Some-eat-3.ensures c.in_ok-value.ensures.reads c.in_ok-returned.ensures

pub returns-clause-reads : goal.returns-clause-reads
returns-clause-reads c =
    tail simple_stmt plain _ _ _ _ c.simple.ensures.reads (λ v a. plain_simple _ _ _ _ c.in_default.ensures c.in_default-eat.ensures c.in_default-eat-2.ensures _ _ v c.in_default-eat-3.ensures a) (λ f. plain_no_simple _ _ _ _ c.in_default.ensures c.in_default-eat.ensures c.in_default-eat-2.ensures _ _ c.in_default-eat-3.ensures f)
