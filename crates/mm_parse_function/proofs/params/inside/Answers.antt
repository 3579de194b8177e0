use Rattle.std.proofs.Common.{[], ◌∷◌, length, ap, arith}
use Rattle.mm_syntax.specs.declared.symbol.Symbol.TheVariants as k
use Rattle.mm_syntax.specs.Rules.{some_params}
use Rattle.mm_cursor.proofs.Steps.{err, err_take, eats_some, eats_none}
use Rattle.mm_parse_function.specs.Parts.{inside_parameters}
use Rattle.mm_parse_function.proofs.Optional.{inside_fails}
use Rattle.mm_parse_function.proofs.ParamExits.{inside_empty, inside_some, inside_unclosed}
use Rattle.mm_parse_function.proofs.params.inside.Goals as goal

pub returns-then-is_some-clause-reads : goal.returns-then-is_some-clause-reads
returns-then-is_some-clause-reads c =
    let x = eats_some (k.Close ∷ []) _ _ _ c.if-is_some.ensures c.eat.ensures in
    inside_empty _ _ _ _ _ x.1 c.new-list.ensures c.in_ok-params.ensures

pub returns-in_err-inner-clause-reads : goal.returns-in_err-inner-clause-reads
returns-in_err-inner-clause-reads c =
    err some_params inside_parameters _ _ _ _ _ c.from_residual-in_err-inner.ensures.1 c.in_err-inner.ensures.reads λ f. inside_fails _ _ _ (eats_none (k.Close ∷ []) _ _ _ c.if-is_some.ensures c.eat.ensures) f

pub returns-in_err-take-clause-reads : goal.returns-in_err-take-clause-reads
returns-in_err-take-clause-reads c =
    err_take (k.Close ∷ []) inside_parameters _ _ _ _ _ c.from_residual-in_err-take.ensures.1 c.in_err-take.ensures.reads λ f. inside_unclosed _ _ _ _ _ (eats_none (k.Close ∷ []) _ _ _ c.if-is_some.ensures c.eat.ensures) c.in_ok-inner.ensures.reads f

pub returns-clause-reads : goal.returns-clause-reads
returns-clause-reads c =
    inside_some _ _ _ _ _ _ (eats_none (k.Close ∷ []) _ _ _ c.if-is_some.ensures c.eat.ensures) c.in_ok-inner.ensures.reads c.in_ok-take.ensures.reads

pub returns-in_err-take-clause-shorter : goal.returns-in_err-take-clause-shorter
returns-in_err-take-clause-shorter c =
    let n = eats_none (k.Close ∷ []) _ _ _ c.if-is_some.ensures c.eat.ensures in
    let m = ap length n.0 in
    omega (arith, m, c.in_err-take.ensures.shorter, c.some_params.ensures.shorter)

pub returns-clause-shorter : goal.returns-clause-shorter
returns-clause-shorter c =
    let n = eats_none (k.Close ∷ []) _ _ _ c.if-is_some.ensures c.eat.ensures in
    let m = ap length n.0 in
    omega (arith, m, c.in_ok-take.ensures.shorter, c.some_params.ensures.shorter)
