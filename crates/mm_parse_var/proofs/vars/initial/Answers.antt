use Rattle.std.proofs.Common.{[], ◌∷◌, arith}
use Rattle.mm_grammar.specs.Grammar.{name, opt}
use Rattle.mm_syntax.specs.declared.symbol.Symbol.TheVariants as k
use Rattle.mm_syntax.specs.Rules.{expr, args, initial}
use Rattle.mm_cursor.proofs.Steps.{err, err_take, eats_some, eats_none, eats_shorter}
use Rattle.mm_parse_var.proofs.Exits.{initial_value, initial_no_value, initial_none, initial_no_args, initial_unclosed, initial_args}
use Rattle.mm_parse_var.proofs.vars.initial.Goals as goal

pub returns-in_err-value-clause-reads : goal.returns-in_err-value-clause-reads
returns-in_err-value-clause-reads c =
    let x = eats_some (k.Assign ∷ []) _ _ _ c.if-is_some.ensures c.eat.ensures in
    err (name expr) (opt initial) _ _ _ _ _ c.from_residual.ensures.1 c.in_err-value.ensures.reads λ f. initial_no_value _ _ _ _ x.1 c.in_err-value.ensures.shorter f

pub returns-then-is_some-clause-reads : goal.returns-then-is_some-clause-reads
returns-then-is_some-clause-reads c =
    let x = eats_some (k.Assign ∷ []) _ _ _ c.if-is_some.ensures c.eat.ensures in
    initial_value _ _ _ _ _ _ x.1 c.in_ok-value.ensures.reads c.in_ok-value-2.ensures

pub returns-in_err-args-clause-reads : goal.returns-in_err-args-clause-reads
returns-in_err-args-clause-reads c =
    let n = eats_none (k.Assign ∷ []) _ _ _ c.if-is_some.ensures c.eat.ensures in
    let x = eats_some (k.Open ∷ []) _ _ _ c.if-is_some-2.ensures c.eat-2.ensures in
    err (name args) (opt initial) _ _ _ _ _ c.from_residual-in_err-args.ensures.1 c.in_err-args.ensures.reads λ f. initial_no_args _ _ _ _ _ n x.1 c.in_err-args.ensures.shorter f

pub returns-in_err-take-clause-reads : goal.returns-in_err-take-clause-reads
returns-in_err-take-clause-reads c =
    let n = eats_none (k.Assign ∷ []) _ _ _ c.if-is_some.ensures c.eat.ensures in
    let x = eats_some (k.Open ∷ []) _ _ _ c.if-is_some-2.ensures c.eat-2.ensures in
    err_take (k.Close ∷ []) (opt initial) _ _ _ _ _ c.from_residual-in_err-take.ensures.1 c.in_err-take.ensures.reads λ f. initial_unclosed _ _ _ _ _ _ _ n x.1 (omega (arith, c.in_err-take.ensures.shorter, c.in_ok-args.ensures.shorter)) c.in_ok-args.ensures.reads f

pub returns-in_err-arguments-clause-shorter : goal.returns-in_err-arguments-clause-shorter
returns-in_err-arguments-clause-shorter c =
    let m = eats_shorter (k.Assign ∷ []) _ _ _ c.eat.ensures in
    let n = eats_shorter (k.Open ∷ []) _ _ _ c.eat-2.ensures in
    omega (arith, m, n, c.in_ok-args.ensures.shorter, c.in_ok-take.ensures.shorter)

pub returns-then-is_some-2-clause-reads : goal.returns-then-is_some-2-clause-reads
returns-then-is_some-2-clause-reads c =
    let n = eats_none (k.Assign ∷ []) _ _ _ c.if-is_some.ensures c.eat.ensures in
    let x = eats_some (k.Open ∷ []) _ _ _ c.if-is_some-2.ensures c.eat-2.ensures in
    initial_args _ _ _ _ _ _ _ _ _ n x.1 c.in_ok-args.ensures.reads c.in_ok-take.ensures.reads c.in_ok-arguments.ensures

pub returns-then-is_some-2-clause-shorter : goal.returns-then-is_some-2-clause-shorter
returns-then-is_some-2-clause-shorter c =
    let m = eats_shorter (k.Assign ∷ []) _ _ _ c.eat.ensures in
    let n = eats_shorter (k.Open ∷ []) _ _ _ c.eat-2.ensures in
    omega (arith, m, n, c.in_ok-args.ensures.shorter, c.in_ok-take.ensures.shorter)

pub returns-clause-reads : goal.returns-clause-reads
returns-clause-reads c =
    let n = eats_none (k.Assign ∷ []) _ _ _ c.if-is_some.ensures c.eat.ensures in
    initial_none _ _ _ n (eats_none (k.Open ∷ []) _ _ _ c.if-is_some-2.ensures c.eat-2.ensures)
