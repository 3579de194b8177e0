use Rattle.std.proofs.Common.{[], ◌∷◌}
use Rattle.mm_grammar.specs.Grammar.{name}
use Rattle.mm_syntax.specs.declared.symbol.Symbol.TheVariants as k
use Rattle.mm_syntax.specs.Rules.{block, function_body}
use Rattle.mm_cursor.proofs.Steps.{err, eats_some, eats_none}
use Rattle.mm_parse_function.proofs.FunctionExits.{body_none, body_no_block, body_some}
use Rattle.mm_parse_function.proofs.function.function_body.Goals as goal

pub returns-then-is_some-clause-reads : goal.returns-then-is_some-clause-reads
returns-then-is_some-clause-reads c =
    let x = eats_some (k.Semicolon ∷ []) _ _ _ c.if-is_some.ensures c.eat.ensures in
    body_none c.args.nesting _ _ _ x.1

pub returns-in_err-body-clause-reads : goal.returns-in_err-body-clause-reads
returns-in_err-body-clause-reads c =
    err (name (block c.args.nesting)) (function_body c.args.nesting) _ _ _ _ _ c.from_residual.ensures.1 c.in_err-body.ensures.reads λ f. body_no_block c.args.nesting _ _ _ (eats_none (k.Semicolon ∷ []) _ _ _ c.if-is_some.ensures c.eat.ensures) f

pub returns-clause-reads : goal.returns-clause-reads
returns-clause-reads c =
    body_some c.args.nesting _ _ _ _ (eats_none (k.Semicolon ∷ []) _ _ _ c.if-is_some.ensures c.eat.ensures) c.in_ok-body.ensures.reads
