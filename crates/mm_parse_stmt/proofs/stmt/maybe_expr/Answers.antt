use Rattle.std.proofs.Common.{[], ◌∷◌}
use Rattle.mm_grammar.specs.Grammar.{name}
use Rattle.mm_syntax.specs.Rules.{expr, maybe_expr}
use Rattle.mm_cursor.proofs.Steps.{err, err_take, eats_some, eats_none}
use Rattle.mm_parse_stmt.proofs.Exits.{maybe_empty, maybe_fails, maybe_unclosed, maybe_reads}
use Rattle.mm_parse_stmt.proofs.stmt.maybe_expr.Goals as goal

pub returns-then-is_some-clause-reads : goal.returns-then-is_some-clause-reads
returns-then-is_some-clause-reads c =
    let x = eats_some (c.args.close ∷ []) _ _ _ c.if-is_some.ensures c.eat.ensures in
    maybe_empty c.args.close c.requires _ _ _ x.1

pub returns-in_err-value-clause-reads : goal.returns-in_err-value-clause-reads
returns-in_err-value-clause-reads c =
    err (name expr) (maybe_expr c.args.close) _ _ _ _ _ c.from_residual.ensures.1 c.in_err-value.ensures.reads λ f. maybe_fails c.args.close c.requires _ _ _ (eats_none (c.args.close ∷ []) _ _ _ c.if-is_some.ensures c.eat.ensures) f

pub returns-in_err-take-clause-reads : goal.returns-in_err-take-clause-reads
returns-in_err-take-clause-reads c =
    err_take (c.args.close ∷ []) (maybe_expr c.args.close) _ _ _ _ _ c.from_residual-in_err-take.ensures.1 c.in_err-take.ensures.reads λ f. maybe_unclosed c.args.close c.requires _ _ _ _ _ (eats_none (c.args.close ∷ []) _ _ _ c.if-is_some.ensures c.eat.ensures) c.in_ok-value.ensures.reads f

pub returns-clause-reads : goal.returns-clause-reads
returns-clause-reads c =
    maybe_reads c.args.close c.requires _ _ _ _ _ _ (eats_none (c.args.close ∷ []) _ _ _ c.if-is_some.ensures c.eat.ensures) c.in_ok-value.ensures.reads c.in_ok-take.ensures.reads
