use Rattle.std.proofs.Common.{[], ◌∷◌, ◌-◌, ◌+◌, length, ap, subst, arith}
use Rattle.mm_grammar.specs.Grammar.{give, many, opt, name, Reads}
use Rattle.mm_syntax.specs.declared.symbol.Symbol.TheVariants as k
use Rattle.mm_syntax.specs.Built as b
use Rattle.mm_syntax.specs.Rules.{units, link, expr, or, unary, postfix, primary, args, end, inside, scoped, suffix, after_new, cast_to}
use Rattle.mm_cursor.proofs.Steps.{err, err_take, tail, eats_some, eats_none}
use Rattle.mm_parse_expr.specs.Parts.{part_at, operators_at, target, member, closing}
use Rattle.mm_parse_expr.proofs.Turns.{took_as, none_as, at_start, at_step, at_end, at_fault, falls_to, step_reads, step_fails, at_level}
use Rattle.mm_parse_expr.proofs.Exits.{expr_reads, expr_no_left, expr_no_end, end_no_yes, end_no_colon, end_no_no, end_choice, end_assign, end_no_right, end_none, unary_prefixed, unary_no_operand, unary_new, unary_no_new, unary_postfix, unary_no_postfix, made_no_class, made_no_args, made_with, made_plain, primary_leaf, primary_enclosed, primary_not_closed, primary_cast, primary_no_cast, primary_scoped, primary_no_scoped, suffix_called, suffix_no_call, suffix_member, suffix_no_member, suffix_stepped, suffix_none, postfix_start, postfix_not, postfix_step, postfix_end, postfix_fails, inside_empty, inside_some, inside_unclosed, inside_fails, args_start, args_not, args_step, args_end, args_fail, closing_no_expr, closing_no_mark, closing_reads, cast_no_target, cast_no_open, cast_no_operand, cast_reads}
use Rattle.mm_parse_expr.proofs.parser.+expr.Goals as goal

pub expr-returns-in_err-left-clause-reads :
    goal.expr-returns-in_err-left-clause-reads
expr-returns-in_err-left-clause-reads t c =
    err (name or) (name expr) _ _ _ _ _ c.from_residual.ensures.1 c.in_err-left.ensures.reads λ f. expr_no_left _ _ f

pub expr-returns-in_err-end-clause-reads :
    goal.expr-returns-in_err-end-clause-reads
expr-returns-in_err-end-clause-reads t c =
    err (opt end) (name expr) _ _ _ _ _ c.from_residual-in_err-end.ensures.1 c.in_err-end.ensures.reads λ f. expr_no_end _ _ _ _ c.in_ok-left.ensures.reads f

pub expr-returns-clause-reads :
    goal.expr-returns-clause-reads
expr-returns-clause-reads t c =
    expr_reads _ _ _ _ _ _ c.in_ok-left.ensures.reads c.in_ok-end.ensures.reads c.in_ok-ended.ensures

pub end-returns-in_err-yes-clause-reads :
    goal.end-returns-in_err-yes-clause-reads
end-returns-in_err-yes-clause-reads t c =
    err (name expr) (opt end) _ _ _ _ _ c.from_residual.ensures.1 c.in_err-yes.ensures.reads λ f. end_no_yes _ _ _ _ c.in-Some.ensures c.in_err-yes.ensures.shorter f

pub end-returns-in_err-take-clause-reads :
    goal.end-returns-in_err-take-clause-reads
end-returns-in_err-take-clause-reads t c =
    err_take (k.Colon ∷ []) (opt end) _ _ _ _ _ c.from_residual-in_err-take.ensures.1 c.in_err-take.ensures.reads λ f. end_no_colon _ _ _ _ _ _ c.in-Some.ensures (omega (arith, c.in_err-take.ensures.shorter, c.in_ok-yes.ensures.shorter)) c.in_ok-yes.ensures.reads f

pub end-returns-in_err-no-clause-reads :
    goal.end-returns-in_err-no-clause-reads
end-returns-in_err-no-clause-reads t c =
    err (name expr) (opt end) _ _ _ _ _ c.from_residual-in_err-no.ensures.1 c.in_err-no.ensures.reads λ f. end_no_no _ _ _ _ _ _ _ _ c.in-Some.ensures (omega (arith, c.in_err-no.ensures.shorter, c.in_ok-take.ensures.shorter, c.in_ok-yes.ensures.shorter)) c.in_ok-yes.ensures.reads c.in_ok-take.ensures.reads f

pub end-returns-in-Some-clause-reads :
    goal.end-returns-in-Some-clause-reads
end-returns-in-Some-clause-reads t c =
    end_choice _ _ _ _ _ _ _ _ _ _ c.in-Some.ensures c.in_ok-yes.ensures.reads c.in_ok-take.ensures.reads c.in_ok-no.ensures.reads c.in_ok-chosen.ensures

pub end-returns-in_err-right-in-Some-eat-clause-reads :
    goal.end-returns-in_err-right-in-Some-eat-clause-reads
end-returns-in_err-right-in-Some-eat-clause-reads t c =
    err (name expr) (opt end) _ _ _ _ _ c.from_residual-in_err-right-in-Some-eat.ensures.1 c.in_err-right-in-Some-eat.ensures.reads λ f. end_no_right _ _ _ _ _ c.in_default.ensures c.in-Some-eat.ensures c.in_err-right-in-Some-eat.ensures.shorter f

pub end-returns-in_ok-assigned-in-Some-eat-clause-reads :
    goal.end-returns-in_ok-assigned-in-Some-eat-clause-reads
end-returns-in_ok-assigned-in-Some-eat-clause-reads t c =
    end_assign _ _ _ _ _ _ _ c.in_default.ensures c.in-Some-eat.ensures c.in_ok-right-in-Some-eat.ensures.reads c.in_ok-assigned-in-Some-eat.ensures

pub end-returns-in-None-clause-reads :
    goal.end-returns-in-None-clause-reads
end-returns-in-None-clause-reads t c =
    end_none _ _ _ c.in_default.ensures c.in-None.ensures

pub chain-returns-in_err-left-clause-reads :
    goal.chain-returns-in_err-left-clause-reads
chain-returns-in_err-left-clause-reads t c =
    err (name unary) (part_at c.args.level) _ _ _ _ _ c.from_residual.ensures.1 c.in_err-left.ensures.reads λ f. falls_to c.args.level 6 c.requires (omega arith) _ _ f

pub chain-loop-at-init :
    goal.chain-loop-at-init
chain-loop-at-init t c =
    record { so_far = c.in_ok-left.ensures.reads; low = c.requires; high = omega arith; shorter = c.in_ok-left.ensures.shorter }

pub chain-returns-in_err-left-2-clause-reads :
    goal.chain-returns-in_err-left-2-clause-reads
chain-returns-in_err-left-2-clause-reads t c =
    err (give (b.joined c.loop-at.left) (many (link (part_at ((c.loop-at.at - 1) + 1)) (operators_at (c.loop-at.at - 1))))) (part_at c.args.level) _ _ _ _ _ c.from_residual-in_err-left-2.ensures.1 c.in_err-left-2.ensures.reads λ f. step_fails c.args.level c.loop-at.at (omega (arith, c.loop-at-test.true)) c.loop-at.invariant.high _ _ _ _ c.loop-at.invariant.so_far f

pub chain-loop-at-preserved :
    goal.chain-loop-at-preserved
chain-loop-at-preserved t c =
    record { so_far = step_reads c.loop-at.at (omega (arith, c.loop-at-test.true)) c.loop-at.invariant.high _ _ _ _ _ c.loop-at.invariant.so_far c.in_ok-left-2.ensures.reads; low = omega (arith, c.loop-at-test.true); high = omega (arith, c.loop-at.invariant.high); shorter = omega (arith, c.in_ok-left-2.ensures.shorter, c.loop-at.invariant.shorter) }

pub chain-returns-clause-reads :
    goal.chain-returns-clause-reads
chain-returns-clause-reads t c =
    at_level c.args.level c.loop-at.at (omega (arith, c.loop-at-test.false)) c.loop-at.invariant.low _ _ _ c.loop-at.invariant.so_far

pub links-loop-op-init :
    goal.links-loop-op-init
links-loop-op-init t c =
    record { so_far = at_start _ _ c.requires _; shorter = omega arith }

pub links-returns-in_err-right-clause-reads :
    goal.links-returns-in_err-right-clause-reads
links-returns-in_err-right-clause-reads t c =
    err (part_at (c.args.level + 1)) (give (b.joined c.args.left) (many (link (part_at (c.args.level + 1)) (operators_at c.args.level)))) _ _ _ _ _ c.from_residual.ensures.1 c.in_err-right.ensures.reads λ f. at_fault c.args.level c.args.left c.requires _ _ _ _ _ _ c.loop-op.invariant.so_far (took_as c.operators.result.now _ _ _ _ c.operators.ensures c.in-Some.ensures) c.in_err-right.ensures.shorter f

pub links-loop-op-preserved :
    goal.links-loop-op-preserved
links-loop-op-preserved t c =
    let l = ap length c.in-Some.ensures.0 in
    record { so_far = at_step c.args.level c.args.left c.requires _ _ _ _ _ _ _ _ c.loop-op.invariant.so_far (took_as c.operators.result.now _ _ _ _ c.operators.ensures c.in-Some.ensures) c.in_ok-right.ensures.reads c.in_ok-left.ensures; shorter = omega (arith, l, c.in_ok-right.ensures.shorter, c.loop-op.invariant.shorter) }

pub links-returns-clause-reads :
    goal.links-returns-clause-reads
links-returns-clause-reads t c =
    at_end c.args.level c.args.left c.requires _ _ _ _ c.loop-op.invariant.so_far (none_as c.operators.result.now _ _ _ c.operators.ensures c.in_default.ensures)

pub unary-returns-in_err-operand-clause-reads :
    goal.unary-returns-in_err-operand-clause-reads
unary-returns-in_err-operand-clause-reads t c =
    err (name unary) (name unary) _ _ _ _ _ c.from_residual.ensures.1 c.in_err-operand.ensures.reads λ f. unary_no_operand _ _ _ _ c.in-Some.ensures c.in_err-operand.ensures.shorter f

pub unary-returns-in-Some-clause-reads :
    goal.unary-returns-in-Some-clause-reads
unary-returns-in-Some-clause-reads t c =
    unary_prefixed _ _ _ _ _ _ c.in-Some.ensures c.in_ok-operand.ensures.reads c.in_ok-prefixed.ensures

pub unary-returns-in_err-kind-clause-reads :
    goal.unary-returns-in_err-kind-clause-reads
unary-returns-in_err-kind-clause-reads t c =
    err after_new (name unary) _ _ _ _ _ c.from_residual-in_err-kind.ensures.1 c.in_err-kind.ensures.reads λ f. unary_no_new _ _ _ _ _ c.in_default.ensures c.in-Some-eat.ensures c.in_err-kind.ensures.shorter f

pub unary-returns-in-Some-eat-clause-reads :
    goal.unary-returns-in-Some-eat-clause-reads
unary-returns-in-Some-eat-clause-reads t c =
    unary_new _ _ _ _ _ _ _ c.in_default.ensures c.in-Some-eat.ensures c.in_ok-kind.ensures.reads c.in_ok-at_word.ensures

pub unary-returns-clause-reads :
    goal.unary-returns-clause-reads
unary-returns-clause-reads t c =
    tail (name postfix) (name unary) _ _ _ _ c.postfix.ensures.reads (λ v a. unary_postfix _ _ _ _ v c.in_default.ensures c.in_default-eat.ensures a) (λ f. unary_no_postfix _ _ _ _ c.in_default.ensures c.in_default-eat.ensures f)

pub made-returns-in_err-class-clause-reads :
    goal.made-returns-in_err-class-clause-reads
made-returns-in_err-class-clause-reads t c =
    err_take (k.Class ∷ []) after_new _ _ _ _ _ c.from_residual.ensures.1 c.in_err-class.ensures.reads λ f. made_no_class _ _ f

pub made-returns-in_err-args-clause-reads :
    goal.made-returns-in_err-args-clause-reads
made-returns-in_err-args-clause-reads t c =
    let x = eats_some (k.Open ∷ []) _ _ _ c.if-is_some.ensures c.eat.ensures in
    err inside after_new _ _ _ _ _ c.from_residual-in_err-args.ensures.1 c.in_err-args.ensures.reads λ f. made_no_args _ _ _ _ _ _ c.in_ok-class.ensures.reads x.1 c.in_err-args.ensures.shorter f

pub made-returns-then-is_some-clause-reads :
    goal.made-returns-then-is_some-clause-reads
made-returns-then-is_some-clause-reads t c =
    let x = eats_some (k.Open ∷ []) _ _ _ c.if-is_some.ensures c.eat.ensures in
    made_with _ _ _ _ _ _ _ _ c.in_ok-class.ensures.reads x.1 c.in_ok-args.ensures.reads c.in_ok-made.ensures

pub made-returns-clause-reads :
    goal.made-returns-clause-reads
made-returns-clause-reads t c =
    made_plain _ _ _ _ _ c.in_ok-class.ensures.reads (eats_none (k.Open ∷ []) _ _ _ c.if-is_some.ensures c.eat.ensures) c.in_ok-made-2.ensures

pub postfix-returns-in_err-left-clause-reads :
    goal.postfix-returns-in_err-left-clause-reads
postfix-returns-in_err-left-clause-reads t c =
    err (name primary) (name postfix) _ _ _ _ _ c.from_residual.ensures.1 c.in_err-left.ensures.reads λ f. postfix_not _ _ f

pub postfix-loop-left-init :
    goal.postfix-loop-left-init
postfix-loop-left-init t c =
    record { so_far = postfix_start _ _ _ c.in_ok-left.ensures.reads; shorter = c.in_ok-left.ensures.shorter }

pub postfix-returns-in_err-suffix-clause-reads :
    goal.postfix-returns-in_err-suffix-clause-reads
postfix-returns-in_err-suffix-clause-reads t c =
    err (opt suffix) (name postfix) _ _ _ _ _ c.from_residual-in_err-suffix.ensures.1 c.in_err-suffix.ensures.reads λ f. postfix_fails _ _ _ _ c.loop-left.invariant.so_far f

pub postfix-loop-left-preserved :
    goal.postfix-loop-left-preserved
postfix-loop-left-preserved t c =
    record { so_far = postfix_step _ _ _ _ _ _ c.loop-left.invariant.so_far (subst (λ o. Reads units (opt suffix) c.loop-left.cursor o c.suffix.new.cursor) c.in-Some.is c.in_ok-suffix.ensures.reads) c.in_ok-left-2.ensures; shorter = omega (arith, c.suffix.ensures.shorter, c.loop-left.invariant.shorter) }

pub postfix-returns-clause-reads :
    goal.postfix-returns-clause-reads
postfix-returns-clause-reads t c =
    postfix_end _ _ _ _ c.loop-left.invariant.so_far (subst (λ o. Reads units (opt suffix) c.loop-left.cursor o c.suffix.new.cursor) c.in_default.is c.in_ok-suffix.ensures.reads)

pub suffix-returns-in_err-args-clause-reads :
    goal.suffix-returns-in_err-args-clause-reads
suffix-returns-in_err-args-clause-reads t c =
    let x = eats_some (k.Open ∷ []) _ _ _ c.if-is_some.ensures c.eat.ensures in
    err inside (opt suffix) _ _ _ _ _ c.from_residual.ensures.1 c.in_err-args.ensures.reads λ f. suffix_no_call _ _ _ _ x.1 c.in_err-args.ensures.shorter f

pub suffix-returns-then-is_some-clause-reads :
    goal.suffix-returns-then-is_some-clause-reads
suffix-returns-then-is_some-clause-reads t c =
    let x = eats_some (k.Open ∷ []) _ _ _ c.if-is_some.ensures c.eat.ensures in
    suffix_called _ _ _ _ _ _ x.1 c.in_ok-args.ensures.reads c.in_ok-called.ensures

pub suffix-returns-in_err-suffix-clause-reads :
    goal.suffix-returns-in_err-suffix-clause-reads
suffix-returns-in_err-suffix-clause-reads t c =
    err (member c.in-Some.op.now) (opt suffix) _ _ _ _ _ c.from_residual-in_err-suffix.ensures.1 c.in_err-suffix.ensures.reads λ f. suffix_no_member _ _ _ _ c.in-Some.op.now (eats_none (k.Open ∷ []) _ _ _ c.if-is_some.ensures c.eat.ensures) c.in-Some.ensures c.in_err-suffix.ensures.shorter f

pub suffix-returns-in-Some-clause-reads :
    goal.suffix-returns-in-Some-clause-reads
suffix-returns-in-Some-clause-reads t c =
    suffix_member _ _ _ _ c.in-Some.op.now _ (eats_none (k.Open ∷ []) _ _ _ c.if-is_some.ensures c.eat.ensures) c.in-Some.ensures c.in_ok-suffix.ensures.reads

pub suffix-returns-in_ok-stepped-in-Some-eat-clause-reads :
    goal.suffix-returns-in_ok-stepped-in-Some-eat-clause-reads
suffix-returns-in_ok-stepped-in-Some-eat-clause-reads t c =
    suffix_stepped _ _ _ _ _ _ (eats_none (k.Open ∷ []) _ _ _ c.if-is_some.ensures c.eat.ensures) c.in_default.ensures c.in-Some-eat.ensures c.in_ok-stepped-in-Some-eat.ensures

pub suffix-returns-in-None-clause-reads :
    goal.suffix-returns-in-None-clause-reads
suffix-returns-in-None-clause-reads t c =
    suffix_none _ _ _ _ (eats_none (k.Open ∷ []) _ _ _ c.if-is_some.ensures c.eat.ensures) c.in_default.ensures c.in-None.ensures

pub suffix-returns-in_err-suffix-clause-shorter :
    goal.suffix-returns-in_err-suffix-clause-shorter
suffix-returns-in_err-suffix-clause-shorter t c =
    let n = eats_none (k.Open ∷ []) _ _ _ c.if-is_some.ensures c.eat.ensures in
    let l = ap length c.in-Some.ensures.0 in
    let m = ap length n.0 in
    omega (arith, l, m, c.in_err-suffix.ensures.shorter)

pub primary-returns-in-Some-clause-reads :
    goal.primary-returns-in-Some-clause-reads
primary-returns-in-Some-clause-reads t c =
    primary_leaf _ _ _ _ c.in-Some.ensures c.in_ok-leaf.ensures

pub primary-returns-in_err-inner-clause-reads :
    goal.primary-returns-in_err-inner-clause-reads
primary-returns-in_err-inner-clause-reads t c =
    err closing (name primary) _ _ _ _ _ c.from_residual-in_err-inner.ensures.1 c.in_err-inner.ensures.reads λ f. primary_not_closed _ _ _ _ _ c.in_default.ensures c.in-Some-eat.ensures c.in_err-inner.ensures.shorter f

pub primary-returns-in-Some-eat-clause-reads :
    goal.primary-returns-in-Some-eat-clause-reads
primary-returns-in-Some-eat-clause-reads t c =
    primary_enclosed _ _ _ _ _ _ _ c.in_default.ensures c.in-Some-eat.ensures c.in_ok-inner.ensures.reads c.in_ok-enclosed.ensures

pub primary-returns-in-Some-eat-2-clause-reads :
    goal.primary-returns-in-Some-eat-2-clause-reads
primary-returns-in-Some-eat-2-clause-reads t c =
    tail (give (λ v. b.cast c.in-Some-eat-2.word.now v.0 v.1) cast_to) (name primary) _ _ _ _ c.cast.ensures.reads (λ v a. primary_cast _ _ _ _ _ c.in-Some-eat-2.word.now v c.in_default.ensures c.in_default-eat.ensures c.in-Some-eat-2.ensures a) (λ f. primary_no_cast _ _ _ _ _ c.in-Some-eat-2.word.now c.in_default.ensures c.in_default-eat.ensures c.in-Some-eat-2.ensures c.cast.ensures.shorter f)

pub primary-returns-clause-reads :
    goal.primary-returns-clause-reads
primary-returns-clause-reads t c =
    tail scoped (name primary) _ _ _ _ c.scoped.ensures.reads (λ v a. primary_scoped _ _ _ _ _ v c.in_default.ensures c.in_default-eat.ensures c.in_default-eat-2.ensures a) (λ f. primary_no_scoped _ _ _ _ _ c.in_default.ensures c.in_default-eat.ensures c.in_default-eat-2.ensures f)

pub cast-returns-in_err-class-clause-reads :
    goal.cast-returns-in_err-class-clause-reads
cast-returns-in_err-class-clause-reads t c =
    err target (give (λ v. b.cast c.args.word.now v.0 v.1) cast_to) _ _ _ _ _ c.from_residual.ensures.1 c.in_err-class.ensures.reads λ f. cast_no_target c.args.word.now _ _ f

pub cast-returns-in_err-take-clause-reads :
    goal.cast-returns-in_err-take-clause-reads
cast-returns-in_err-take-clause-reads t c =
    err_take (k.Open ∷ []) (give (λ v. b.cast c.args.word.now v.0 v.1) cast_to) _ _ _ _ _ c.from_residual-in_err-take.ensures.1 c.in_err-take.ensures.reads λ f. cast_no_open c.args.word.now _ _ _ _ c.in_ok-class.ensures.reads f

pub cast-returns-in_err-operand-clause-reads :
    goal.cast-returns-in_err-operand-clause-reads
cast-returns-in_err-operand-clause-reads t c =
    err closing (give (λ v. b.cast c.args.word.now v.0 v.1) cast_to) _ _ _ _ _ c.from_residual-in_err-operand.ensures.1 c.in_err-operand.ensures.reads λ f. cast_no_operand c.args.word.now _ _ _ _ _ _ c.in_ok-class.ensures.reads c.in_ok-take.ensures.reads f

pub cast-returns-clause-reads :
    goal.cast-returns-clause-reads
cast-returns-clause-reads t c =
    cast_reads c.args.word.now _ _ _ _ _ _ _ _ c.in_ok-class.ensures.reads c.in_ok-take.ensures.reads c.in_ok-operand.ensures.reads c.in_ok-cast.ensures

pub closed-returns-in_err-inner-clause-reads :
    goal.closed-returns-in_err-inner-clause-reads
closed-returns-in_err-inner-clause-reads t c =
    err (name expr) closing _ _ _ _ _ c.from_residual.ensures.1 c.in_err-inner.ensures.reads λ f. closing_no_expr _ _ f

pub closed-returns-in_err-take-clause-reads :
    goal.closed-returns-in_err-take-clause-reads
closed-returns-in_err-take-clause-reads t c =
    err_take (k.Close ∷ []) closing _ _ _ _ _ c.from_residual-in_err-take.ensures.1 c.in_err-take.ensures.reads λ f. closing_no_mark _ _ _ _ c.in_ok-inner.ensures.reads f

pub closed-returns-clause-reads :
    goal.closed-returns-clause-reads
closed-returns-clause-reads t c =
    closing_reads _ _ _ _ _ c.in_ok-inner.ensures.reads c.in_ok-take.ensures.reads

pub inside-returns-then-is_some-clause-reads :
    goal.inside-returns-then-is_some-clause-reads
inside-returns-then-is_some-clause-reads t c =
    let x = eats_some (k.Close ∷ []) _ _ _ c.if-is_some.ensures c.eat.ensures in
    inside_empty _ _ _ _ x.1 c.new.ensures

pub inside-returns-in_err-args-clause-reads :
    goal.inside-returns-in_err-args-clause-reads
inside-returns-in_err-args-clause-reads t c =
    err (name args) inside _ _ _ _ _ c.from_residual.ensures.1 c.in_err-args.ensures.reads λ f. inside_fails _ _ _ (eats_none (k.Close ∷ []) _ _ _ c.if-is_some.ensures c.eat.ensures) f

pub inside-returns-in_err-take-clause-reads :
    goal.inside-returns-in_err-take-clause-reads
inside-returns-in_err-take-clause-reads t c =
    err_take (k.Close ∷ []) inside _ _ _ _ _ c.from_residual-in_err-take.ensures.1 c.in_err-take.ensures.reads λ f. inside_unclosed _ _ _ _ _ (eats_none (k.Close ∷ []) _ _ _ c.if-is_some.ensures c.eat.ensures) c.in_ok-args.ensures.reads f

pub inside-returns-clause-reads :
    goal.inside-returns-clause-reads
inside-returns-clause-reads t c =
    inside_some _ _ _ _ _ _ (eats_none (k.Close ∷ []) _ _ _ c.if-is_some.ensures c.eat.ensures) c.in_ok-args.ensures.reads c.in_ok-take.ensures.reads

pub args-returns-in_err-first-clause-reads :
    goal.args-returns-in_err-first-clause-reads
args-returns-in_err-first-clause-reads t c =
    err (name expr) (name args) _ _ _ _ _ c.from_residual.ensures.1 c.in_err-first.ensures.reads λ f. args_not _ _ f

pub args-loop-alloc-init :
    goal.args-loop-alloc-init
args-loop-alloc-init t c =
    record { so_far = args_start _ _ _ _ c.in_ok-first.ensures.reads c.in_ok-list.ensures; shorter = c.in_ok-first.ensures.shorter }

pub args-returns-in_err-next-clause-reads :
    goal.args-returns-in_err-next-clause-reads
args-returns-in_err-next-clause-reads t c =
    let x = eats_some (k.Comma ∷ []) _ _ _ c.loop-alloc-test.ensures c.eat.ensures in
    err (name expr) (name args) _ _ _ _ _ c.from_residual-in_err-next.ensures.1 c.in_err-next.ensures.reads λ f. args_fail _ _ _ _ _ _ c.loop-alloc.invariant.so_far x.1 c.in_err-next.ensures.shorter f

pub args-loop-alloc-preserved :
    goal.args-loop-alloc-preserved
args-loop-alloc-preserved t c =
    let x = eats_some (k.Comma ∷ []) _ _ _ c.loop-alloc-test.ensures c.eat.ensures in
    let l = ap length x.1.0 in
    record { so_far = args_step _ _ _ _ _ _ _ _ c.loop-alloc.invariant.so_far x.1 c.in_ok-next.ensures.reads c.in_ok-push.ensures; shorter = omega (arith, l, c.in_ok-next.ensures.shorter, c.loop-alloc.invariant.shorter) }

pub args-returns-clause-reads :
    goal.args-returns-clause-reads
args-returns-clause-reads t c =
    args_end _ _ _ _ c.loop-alloc.invariant.so_far (eats_none (k.Comma ∷ []) _ _ _ c.loop-alloc-test.ensures c.eat.ensures)
