use Rattle.mm_syntax.specs.View.{exprs_view, expr_view}
use Rattle.mm_typing_valid.specs.Numbers.{AreInRange, IsInRange}
use Rattle.mm_tree_numbers.proofs.Lists.{next, end}
use Rattle.mm_tree_numbers.proofs.+expr.Goals as goal

pub exprs-loop-tree-init : goal.exprs-loop-tree-init
exprs-loop-tree-init t c = λ h. h

pub exprs-loop-tree-preserved : goal.exprs-loop-tree-preserved
exprs-loop-tree-preserved t c = next (λ xs. AreInRange (exprs_view xs)) (λ x. IsInRange (expr_view x)) (λ x xs h k. (h, k)) tt c.args.list.now c.loop-tree.tree-index c.tree-item.result c.tree-item.is c.loop-tree-test.true c.expr.ensures c.loop-tree.invariant

pub exprs-returns : goal.exprs-returns
exprs-returns t c = end (λ xs. AreInRange (exprs_view xs)) (λ x. IsInRange (expr_view x)) (λ x xs h k. (h, k)) tt c.args.list.now c.loop-tree.tree-index c.loop-tree-test.false c.loop-tree.invariant
