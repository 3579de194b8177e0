use Rattle.std.proofs.Common.{◌≡◌, suc, [], ◌∷◌, ◌-◌, length, ap, sym, arith}
use Rattle.mm_syntax.specs.declared.symbol.Symbol.TheVariants as k
use Rattle.mm_syntax.specs.Rules.{enclosed, maybe_expr}
use Rattle.mm_cursor.proofs.Steps.{err, tail, eats_some, eats_none}
use Rattle.mm_cursor.proofs.Lists.{list_empty}
use Rattle.mm_parse_stmt.specs.Parts.{block_end, do_end, for_end, for_open, if_end, plain, until, while_end}
use Rattle.mm_parse_stmt.proofs.Exits.{st, stmt_shorter, stmts_step, stmts_end, stmts_fail, if_no_condition, if_no_body, if_alone, if_no_other, if_both, while_no_condition, while_no_body, while_reads, do_no_body, do_no_condition, do_reads, for_no_start, for_no_condition, for_no_step, for_no_body, for_reads, none_left, stmt_block, stmt_no_block, stmt_if, stmt_no_if, stmt_while, stmt_no_while, stmt_do, stmt_no_do, stmt_for, stmt_no_for, stmt_plain, stmt_no_plain}
use Rattle.mm_parse_stmt.proofs.stmt.+stmt.Goals as goal

pub block_end-loop-alloc-init : goal.block_end-loop-alloc-init
block_end-loop-alloc-init t c =
    record { so_far = list_empty (st c.args.nesting) _ _ c.new-stmts.ensures; shorter = omega arith }

pub block_end-returns-in_err-next-clause-reads : goal.block_end-returns-in_err-next-clause-reads
block_end-returns-in_err-next-clause-reads t c =
    err (st c.args.nesting) (block_end c.args.brace.now c.args.nesting) _ _ _ _ _ c.from_residual.ensures.1 c.in_err-next.ensures.reads λ f. stmts_fail c.args.brace.now c.args.nesting _ _ _ _ _ c.loop-alloc.invariant.so_far (eats_none (k.CloseBrace ∷ []) _ _ _ (sym c.loop-alloc-test.ensures) c.eat.ensures) f

pub block_end-loop-alloc-preserved : goal.block_end-loop-alloc-preserved
block_end-loop-alloc-preserved t c =
    let h = eats_none (k.CloseBrace ∷ []) _ _ _ (sym c.loop-alloc-test.ensures) c.eat.ensures in
    let l = ap length h.0 in
    record { so_far = stmts_step c.args.nesting _ _ _ _ _ _ _ c.loop-alloc.invariant.so_far h c.in_ok-next.ensures.reads c.in_ok-push.ensures; shorter = omega (arith, l, c.in_ok-next.ensures.shorter, c.loop-alloc.invariant.shorter) }

pub block_end-loop-alloc-smaller : goal.block_end-loop-alloc-smaller
block_end-loop-alloc-smaller t c =
    let h = eats_none (k.CloseBrace ∷ []) _ _ _ (sym c.loop-alloc-test.ensures) c.eat.ensures in
    let l = ap length h.0 in
    let m = stmt_shorter c.args.nesting _ _ _ c.in_ok-next.ensures.reads in
    omega (arith, l, m)

pub block_end-returns-clause-reads : goal.block_end-returns-clause-reads
block_end-returns-clause-reads t c =
    let x = eats_some (k.CloseBrace ∷ []) _ _ _ (sym c.loop-alloc-test.ensures) c.eat.ensures in
    stmts_end c.args.brace.now c.args.nesting _ _ _ _ _ _ c.loop-alloc.invariant.so_far x.1 c.in_ok-block.ensures

pub do_end-returns-in_err-body-clause-reads : goal.do_end-returns-in_err-body-clause-reads
do_end-returns-in_err-body-clause-reads t c =
    err (st c.args.nesting) (do_end c.args.word.now c.args.nesting) _ _ _ _ _ c.from_residual.ensures.1 c.in_err-body.ensures.reads λ f. do_no_body c.args.word.now c.args.nesting _ _ f

pub do_end-returns-in_err-condition-clause-reads :
    goal.do_end-returns-in_err-condition-clause-reads
do_end-returns-in_err-condition-clause-reads t c =
    err until (do_end c.args.word.now c.args.nesting) _ _ _ _ _ c.from_residual-in_err-condition.ensures.1 c.in_err-condition.ensures.reads λ f. do_no_condition c.args.word.now c.args.nesting _ _ _ _ c.in_ok-body.ensures.reads f

pub do_end-returns-clause-reads : goal.do_end-returns-clause-reads
do_end-returns-clause-reads t c =
    do_reads c.args.word.now c.args.nesting _ _ _ _ _ _ c.in_ok-body.ensures.reads c.in_ok-condition.ensures.reads c.in_ok-done_while.ensures

pub for_end-returns-in_err-start-clause-reads : goal.for_end-returns-in_err-start-clause-reads
for_end-returns-in_err-start-clause-reads t c =
    err for_open (for_end c.args.word.now c.args.nesting) _ _ _ _ _ c.from_residual.ensures.1 c.in_err-start.ensures.reads λ f. for_no_start c.args.word.now c.args.nesting _ _ f

pub for_end-returns-in_err-condition-clause-reads :
    goal.for_end-returns-in_err-condition-clause-reads
for_end-returns-in_err-condition-clause-reads t c =
    err (maybe_expr k.Semicolon) (for_end c.args.word.now c.args.nesting) _ _ _ _ _ c.from_residual-in_err-condition.ensures.1 c.in_err-condition.ensures.reads λ f. for_no_condition c.args.word.now c.args.nesting _ _ _ _ c.in_ok-start.ensures.reads f

pub for_end-returns-in_err-step-clause-reads : goal.for_end-returns-in_err-step-clause-reads
for_end-returns-in_err-step-clause-reads t c =
    err (maybe_expr k.Close) (for_end c.args.word.now c.args.nesting) _ _ _ _ _ c.from_residual-in_err-step.ensures.1 c.in_err-step.ensures.reads λ f. for_no_step c.args.word.now c.args.nesting _ _ _ _ _ _ c.in_ok-start.ensures.reads c.in_ok-condition.ensures.reads f

pub for_end-returns-in_err-body-clause-reads : goal.for_end-returns-in_err-body-clause-reads
for_end-returns-in_err-body-clause-reads t c =
    err (st c.args.nesting) (for_end c.args.word.now c.args.nesting) _ _ _ _ _ c.from_residual-in_err-body.ensures.1 c.in_err-body.ensures.reads λ f. for_no_body c.args.word.now c.args.nesting _ _ _ _ _ _ _ _ c.in_ok-start.ensures.reads c.in_ok-condition.ensures.reads c.in_ok-step.ensures.reads f

pub for_end-returns-clause-reads : goal.for_end-returns-clause-reads
for_end-returns-clause-reads t c =
    for_reads c.args.word.now c.args.nesting _ _ _ _ _ _ _ _ _ _ _ c.in_ok-start.ensures.reads c.in_ok-condition.ensures.reads c.in_ok-step.ensures.reads c.in_ok-head.ensures c.in_ok-body.ensures.reads c.in_ok-repeated.ensures

pub if_end-returns-in_err-condition-clause-reads :
    goal.if_end-returns-in_err-condition-clause-reads
if_end-returns-in_err-condition-clause-reads t c =
    err enclosed (if_end c.args.word.now c.args.nesting) _ _ _ _ _ c.from_residual.ensures.1 c.in_err-condition.ensures.reads λ f. if_no_condition c.args.word.now c.args.nesting _ _ f

pub if_end-returns-in_err-body-clause-reads : goal.if_end-returns-in_err-body-clause-reads
if_end-returns-in_err-body-clause-reads t c =
    err (st c.args.nesting) (if_end c.args.word.now c.args.nesting) _ _ _ _ _ c.from_residual-in_err-body.ensures.1 c.in_err-body.ensures.reads λ f. if_no_body c.args.word.now c.args.nesting _ _ _ _ c.in_ok-condition.ensures.reads f

pub if_end-returns-in_err-other-clause-reads : goal.if_end-returns-in_err-other-clause-reads
if_end-returns-in_err-other-clause-reads t c =
    let x = eats_some (k.Else ∷ []) _ _ _ c.if-is_some.ensures c.eat.ensures in
    err (st c.args.nesting) (if_end c.args.word.now c.args.nesting) _ _ _ _ _ c.from_residual-in_err-other.ensures.1 c.in_err-other.ensures.reads λ f. if_no_other c.args.word.now c.args.nesting _ _ _ _ _ _ _ _ c.in_ok-condition.ensures.reads c.in_ok-body.ensures.reads x.1 c.in_err-other.ensures.shorter f

pub if_end-returns-then-is_some-clause-reads : goal.if_end-returns-then-is_some-clause-reads
if_end-returns-then-is_some-clause-reads t c =
    let x = eats_some (k.Else ∷ []) _ _ _ c.if-is_some.ensures c.eat.ensures in
    if_both c.args.word.now c.args.nesting _ _ _ _ _ _ _ _ _ _ c.in_ok-condition.ensures.reads c.in_ok-body.ensures.reads x.1 c.in_ok-other.ensures.reads c.in_ok-chosen.ensures

pub if_end-returns-clause-reads : goal.if_end-returns-clause-reads
if_end-returns-clause-reads t c =
    if_alone c.args.word.now c.args.nesting _ _ _ _ _ _ _ c.in_ok-condition.ensures.reads c.in_ok-body.ensures.reads (eats_none (k.Else ∷ []) _ _ _ c.if-is_some.ensures c.eat.ensures) c.in_ok-branched.ensures

pub while_end-returns-in_err-condition-clause-reads :
    goal.while_end-returns-in_err-condition-clause-reads
while_end-returns-in_err-condition-clause-reads t c =
    err enclosed (while_end c.args.word.now c.args.nesting) _ _ _ _ _ c.from_residual.ensures.1 c.in_err-condition.ensures.reads λ f. while_no_condition c.args.word.now c.args.nesting _ _ f

pub while_end-returns-in_err-body-clause-reads : goal.while_end-returns-in_err-body-clause-reads
while_end-returns-in_err-body-clause-reads t c =
    err (st c.args.nesting) (while_end c.args.word.now c.args.nesting) _ _ _ _ _ c.from_residual-in_err-body.ensures.1 c.in_err-body.ensures.reads λ f. while_no_body c.args.word.now c.args.nesting _ _ _ _ c.in_ok-condition.ensures.reads f

pub while_end-returns-clause-reads : goal.while_end-returns-clause-reads
while_end-returns-clause-reads t c =
    while_reads c.args.word.now c.args.nesting _ _ _ _ _ _ c.in_ok-condition.ensures.reads c.in_ok-body.ensures.reads c.in_ok-looped.ensures

pub stmt-returns-then-nesting-eq0-clause-reads : goal.stmt-returns-then-nesting-eq0-clause-reads
stmt-returns-then-nesting-eq0-clause-reads t c =
    none_left c.args.nesting (omega (arith, c.if-nesting-eq0.true)) _

pub stmt-returns-in-Some-clause-reads : goal.stmt-returns-in-Some-clause-reads
stmt-returns-in-Some-clause-reads t c =
    let e : suc (c.args.nesting - 1) ≡ c.args.nesting = omega (arith, c.if-nesting-eq0.false) in
    tail (block_end c.in-Some.brace.now (c.args.nesting - 1)) (st c.args.nesting) _ _ _ _ c.block_end.ensures.reads
    (λ v a. stmt_block c.args.nesting (c.args.nesting - 1) e _ _ _ c.in-Some.brace.now v c.in-Some.ensures a)
    (λ f. stmt_no_block c.args.nesting (c.args.nesting - 1) e _ _ _ c.in-Some.brace.now c.in-Some.ensures c.block_end.ensures.shorter f)

pub stmt-returns-in-Some-eat-clause-reads : goal.stmt-returns-in-Some-eat-clause-reads
stmt-returns-in-Some-eat-clause-reads t c =
    let e : suc (c.args.nesting - 1) ≡ c.args.nesting = omega (arith, c.if-nesting-eq0.false) in
    tail (if_end c.in-Some-eat.word.now (c.args.nesting - 1)) (st c.args.nesting) _ _ _ _ c.if_end.ensures.reads
    (λ v a. stmt_if c.args.nesting (c.args.nesting - 1) e _ _ c.in_default.ensures _ _ c.in-Some-eat.word.now v c.in-Some-eat.ensures a)
    (λ f. stmt_no_if c.args.nesting (c.args.nesting - 1) e _ _ c.in_default.ensures _ _ c.in-Some-eat.word.now c.in-Some-eat.ensures c.if_end.ensures.shorter f)

pub stmt-returns-in-Some-eat-2-clause-reads : goal.stmt-returns-in-Some-eat-2-clause-reads
stmt-returns-in-Some-eat-2-clause-reads t c =
    let e : suc (c.args.nesting - 1) ≡ c.args.nesting = omega (arith, c.if-nesting-eq0.false) in
    tail (while_end c.in-Some-eat-2.word.now (c.args.nesting - 1)) (st c.args.nesting) _ _ _ _ c.while_end.ensures.reads
    (λ v a. stmt_while c.args.nesting (c.args.nesting - 1) e _ _ c.in_default.ensures _ c.in_default-eat.ensures _ _ c.in-Some-eat-2.word.now v c.in-Some-eat-2.ensures a)
    (λ f. stmt_no_while c.args.nesting (c.args.nesting - 1) e _ _ c.in_default.ensures _ c.in_default-eat.ensures _ _ c.in-Some-eat-2.word.now c.in-Some-eat-2.ensures c.while_end.ensures.shorter f)

pub stmt-returns-in-Some-eat-3-clause-reads : goal.stmt-returns-in-Some-eat-3-clause-reads
stmt-returns-in-Some-eat-3-clause-reads t c =
    let e : suc (c.args.nesting - 1) ≡ c.args.nesting = omega (arith, c.if-nesting-eq0.false) in
    tail (do_end c.in-Some-eat-3.word.now (c.args.nesting - 1)) (st c.args.nesting) _ _ _ _ c.do_end.ensures.reads
    (λ v a. stmt_do c.args.nesting (c.args.nesting - 1) e _ _ c.in_default.ensures _ c.in_default-eat.ensures _ c.in_default-eat-2.ensures _ _ c.in-Some-eat-3.word.now v c.in-Some-eat-3.ensures a)
    (λ f. stmt_no_do c.args.nesting (c.args.nesting - 1) e _ _ c.in_default.ensures _ c.in_default-eat.ensures _ c.in_default-eat-2.ensures _ _ c.in-Some-eat-3.word.now c.in-Some-eat-3.ensures c.do_end.ensures.shorter f)

pub stmt-returns-in-Some-eat-4-clause-reads : goal.stmt-returns-in-Some-eat-4-clause-reads
stmt-returns-in-Some-eat-4-clause-reads t c =
    let e : suc (c.args.nesting - 1) ≡ c.args.nesting = omega (arith, c.if-nesting-eq0.false) in
    tail (for_end c.in-Some-eat-4.word.now (c.args.nesting - 1)) (st c.args.nesting) _ _ _ _ c.for_end.ensures.reads
    (λ v a. stmt_for c.args.nesting (c.args.nesting - 1) e _ _ c.in_default.ensures _ c.in_default-eat.ensures _ c.in_default-eat-2.ensures _ c.in_default-eat-3.ensures _ _ c.in-Some-eat-4.word.now v c.in-Some-eat-4.ensures a)
    (λ f. stmt_no_for c.args.nesting (c.args.nesting - 1) e _ _ c.in_default.ensures _ c.in_default-eat.ensures _ c.in_default-eat-2.ensures _ c.in_default-eat-3.ensures _ _ c.in-Some-eat-4.word.now c.in-Some-eat-4.ensures c.for_end.ensures.shorter f)

pub stmt-returns-clause-reads : goal.stmt-returns-clause-reads
stmt-returns-clause-reads t c =
    let e : suc (c.args.nesting - 1) ≡ c.args.nesting = omega (arith, c.if-nesting-eq0.false) in
    tail plain (st c.args.nesting) _ _ _ _ c.plain.ensures.reads
    (λ v a. stmt_plain c.args.nesting (c.args.nesting - 1) e _ _ c.in_default.ensures _ c.in_default-eat.ensures _ c.in_default-eat-2.ensures _ c.in_default-eat-3.ensures _ _ v c.in_default-eat-4.ensures a)
    (λ f. stmt_no_plain c.args.nesting (c.args.nesting - 1) e _ _ c.in_default.ensures _ c.in_default-eat.ensures _ c.in_default-eat-2.ensures _ c.in_default-eat-3.ensures _ _ c.in_default-eat-4.ensures f)
