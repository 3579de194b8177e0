use Rattle.std.proofs.Common.{[], ◌∷◌, length, ap, arith}
use Rattle.mm_syntax.specs.declared.symbol.Symbol.TheVariants as k
use Rattle.mm_syntax.specs.Rules.{after_type, after_class_name}
use Rattle.mm_cursor.proofs.Steps.{err, tail, eats_some, eats_none}
use Rattle.mm_parse_function.specs.Parts.{constructor_tail}
use Rattle.mm_parse_function.proofs.FunctionExits.{class_constructor, class_no_constructor, class_no_type, class_type}
use Rattle.mm_parse_function.proofs.function.after_class_name.Goals as goal

pub returns-then-is_some-clause-reads : goal.returns-then-is_some-clause-reads
returns-then-is_some-clause-reads c =
    let x = eats_some (k.Scope ∷ []) _ _ _ c.if-is_some.ensures c.eat.ensures in
    tail (constructor_tail c.args.nesting) (after_class_name c.args.nesting) _ _ _ _ c.constructor_tail.ensures.reads (λ v a. class_constructor c.args.nesting _ _ _ _ v x.1 a) (λ f. class_no_constructor c.args.nesting _ _ _ _ x.1 c.constructor_tail.ensures.shorter f)

pub returns-in_err-end-clause-reads : goal.returns-in_err-end-clause-reads
returns-in_err-end-clause-reads c =
    err (after_type c.args.nesting) (after_class_name c.args.nesting) _ _ _ _ _ c.from_residual.ensures.1 c.in_err-end.ensures.reads λ f. class_no_type c.args.nesting _ _ _ (eats_none (k.Scope ∷ []) _ _ _ c.if-is_some.ensures c.eat.ensures) f

pub returns-clause-reads : goal.returns-clause-reads
returns-clause-reads c =
    class_type c.args.nesting _ _ _ _ _ (eats_none (k.Scope ∷ []) _ _ _ c.if-is_some.ensures c.eat.ensures) c.in_ok-end.ensures.reads c.in_ok-after_type.ensures

pub returns-in_err-after_type-clause-shorter : goal.returns-in_err-after_type-clause-shorter
returns-in_err-after_type-clause-shorter c =
    let n = eats_none (k.Scope ∷ []) _ _ _ c.if-is_some.ensures c.eat.ensures in
    let m = ap length n.0 in
    omega (arith, m, c.after_type.ensures.shorter)

pub returns-clause-shorter : goal.returns-clause-shorter
returns-clause-shorter c =
    let n = eats_none (k.Scope ∷ []) _ _ _ c.if-is_some.ensures c.eat.ensures in
    let m = ap length n.0 in
    omega (arith, m, c.after_type.ensures.shorter)
