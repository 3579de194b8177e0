use Rattle.std.specs.Prelude.{false, true, OnOk, IfOk}
use Rattle.std.proofs.Common.{◌≡◌, ◌+◌, drop, sym, ap, ◌∙◌, subst}
use Rattle.mm_c.specs.View.{stmt_view, block_view, code_view}
use Rattle.mm_c.specs.WellFormed.{stmt_breaks, block_breaks, code_breaks}
use Rattle.mm_c_rules.specs.Scopes.{here_at}
use Rattle.mm_c_rules.specs.Keeps.{keeps, left_of}
use Rattle.mm_c_rules.specs.Places.{inner}
use Rattle.mm_c_rules.proofs.Keeping.{left-broken, left-kept, keeps-kept, else_broken, else_left, else_keeps}
use Rattle.mm_c_rules.proofs.statements.+stmt_keeps.Goals as goal

pub code_keeps-returns-then-not-branch-clause-left : goal.code_keeps-returns-then-not-branch-clause-left
code_keeps-returns-then-not-branch-clause-left t c =
    let d = stmt_view c.stmt-item.result in
    let h = here_at c.args.place.now c.args.scope.now in
    let same = c.loop-stmt.invariant.2 in
    c.in_ok-stmt_keeps.ensures.left ∙ ap (λ s. left_of c.loop-stmt.left (stmt_breaks (here_at c.args.place.now s) d)) same
    ∙ sym (c.loop-stmt.invariant.1
    ∙ left-broken h c.loop-stmt.left c.args.stmts.now c.loop-stmt.stmt-index c.stmt-item.result c.loop-stmt-test.true c.stmt-item.is
    (sym (c.in_ok-stmt_keeps.ensures.keeps ∙ ap (λ s. keeps (stmt_breaks (here_at c.args.place.now s) d)) same) ∙ c.if-not-branch.true))

pub code_keeps-loop-stmt-preserved : goal.code_keeps-loop-stmt-preserved
code_keeps-loop-stmt-preserved t c =
    let d = stmt_view c.stmt-item.result in
    let h = here_at c.args.place.now c.args.scope.now in
    let same = c.loop-stmt.invariant.2 in
    let kept : keeps (stmt_breaks h d) ≡ true = sym (c.in_ok-stmt_keeps.ensures.keeps ∙ ap (λ s. keeps (stmt_breaks (here_at c.args.place.now s) d)) same) ∙ c.if-not-branch.false in (
      c.loop-stmt.invariant.0 ∙ keeps-kept h c.args.stmts.now c.loop-stmt.stmt-index c.stmt-item.result c.loop-stmt-test.true c.stmt-item.is kept,
      c.loop-stmt.invariant.1 ∙ left-kept h c.loop-stmt.left c.args.stmts.now c.loop-stmt.stmt-index c.stmt-item.result c.loop-stmt-test.true c.stmt-item.is kept
          ∙ ap (λ n. left_of n (code_breaks h (code_view (drop (c.loop-stmt.stmt-index + 1) c.args.stmts.now))))
          (sym (c.in_ok-stmt_keeps.ensures.left ∙ ap (λ s. left_of c.loop-stmt.left (stmt_breaks (here_at c.args.place.now s) d)) same)),
      c.in_ok-stmt_keeps.ensures.scope ∙ same,
    )

pub inner_keeps-returns-then-not-branch-clause-left : goal.inner_keeps-returns-then-not-branch-clause-left
inner_keeps-returns-then-not-branch-clause-left t c =
    let h = here_at c.args.place.now c.args.scope.now in
    c.in_ok-block_keeps-in-IfElse.ensures.left
    ∙ sym (ap (λ s. left_of c.args.left.now (inner h (stmt_view s))) c.in-IfElse.is
    ∙ else_broken h c.in-IfElse.field-0 c.in-IfElse.block c.in-IfElse.other c.args.left.now (sym c.in_ok-block_keeps-in-IfElse.ensures.keeps ∙ c.if-not-branch.true))

pub inner_keeps-returns-else-not-branch-clause-keeps : goal.inner_keeps-returns-else-not-branch-clause-keeps
inner_keeps-returns-else-not-branch-clause-keeps t c =
    let h = here_at c.args.place.now c.args.scope.now in
    subst (λ k. IfOk c.block_keeps-in-IfElse-2.result (λ b. b ≡ k))
    (ap (λ s. keeps (block_breaks (here_at c.args.place.now s) (block_view c.in-IfElse.other))) c.in_ok-block_keeps-in-IfElse.ensures.scope
    ∙ sym (ap (λ s. keeps (inner h (stmt_view s))) c.in-IfElse.is
    ∙ else_keeps h c.in-IfElse.field-0 c.in-IfElse.block c.in-IfElse.other (sym c.in_ok-block_keeps-in-IfElse.ensures.keeps ∙ c.if-not-branch.false)))
    c.block_keeps-in-IfElse-2.ensures.keeps

pub inner_keeps-returns-else-not-branch-clause-left : goal.inner_keeps-returns-else-not-branch-clause-left
inner_keeps-returns-else-not-branch-clause-left t c =
    let h = here_at c.args.place.now c.args.scope.now in
    subst (λ k. OnOk c.block_keeps-in-IfElse-2.result (c.block_keeps-in-IfElse-2.new.left ≡ k))
    ((λ j. left_of (c.in_ok-block_keeps-in-IfElse.ensures.left j) (block_breaks (here_at c.args.place.now (c.in_ok-block_keeps-in-IfElse.ensures.scope j)) (block_view c.in-IfElse.other)))
    ∙ sym (ap (λ s. left_of c.args.left.now (inner h (stmt_view s))) c.in-IfElse.is
    ∙ else_left h c.in-IfElse.field-0 c.in-IfElse.block c.in-IfElse.other c.args.left.now (sym c.in_ok-block_keeps-in-IfElse.ensures.keeps ∙ c.if-not-branch.false)))
    c.block_keeps-in-IfElse-2.ensures.left
