use Rattle.std.proofs.Common.{[], ◌∷◌, refl}
use Rattle.mm_syntax.specs.declared.symbol.Symbol.TheVariants as k
use Rattle.mm_syntax.specs.Rules.{method_body}
use Rattle.mm_cursor.proofs.Steps.{err, eats_some, eats_none}
use Rattle.mm_parse_class.specs.Parts.{method_rest}
use Rattle.mm_parse_class.proofs.Exits as exit
use Rattle.mm_parse_class.proofs.ending.method_rest.Goals as goal

pub returns-then-is_some-clause-reads : goal.returns-then-is_some-clause-reads
returns-then-is_some-clause-reads c =
    let x = eats_some (k.Semicolon ∷ []) _ _ _ c.if-is_some.ensures c.eat.ensures in
    exit.rest_none (method_body c.args.nesting) refl _ _ _ x.1

pub returns-in_err-body-clause-reads : goal.returns-in_err-body-clause-reads
returns-in_err-body-clause-reads c =
    err (method_body c.args.nesting) (method_rest c.args.nesting) _ _ _ _ _ c.from_residual.ensures.1 c.in_err-body.ensures.reads λ f. exit.rest_fails (method_body c.args.nesting) refl _ _ _ (eats_none (k.Semicolon ∷ []) _ _ _ c.if-is_some.ensures c.eat.ensures) f

pub returns-clause-reads : goal.returns-clause-reads
returns-clause-reads c =
    exit.rest_some (method_body c.args.nesting) refl _ _ _ _ (eats_none (k.Semicolon ∷ []) _ _ _ c.if-is_some.ensures c.eat.ensures) c.in_ok-body.ensures.reads
