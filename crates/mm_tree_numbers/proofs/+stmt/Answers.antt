use Rattle.mm_syntax.specs.View.{stmts_view, stmt_view}
use Rattle.mm_typing_valid.specs.Numbers.{StmtsInRange, StmtInRange}
use Rattle.mm_tree_numbers.proofs.Lists.{next, end}
use Rattle.mm_tree_numbers.proofs.+stmt.Goals as goal

pub stmts-loop-tree-init : goal.stmts-loop-tree-init
stmts-loop-tree-init t c = λ h. h

pub stmts-loop-tree-preserved : goal.stmts-loop-tree-preserved
stmts-loop-tree-preserved t c = next (λ xs. StmtsInRange (stmts_view xs)) (λ x. StmtInRange (stmt_view x)) (λ x xs h k. (h, k)) tt c.args.list.now c.loop-tree.tree-index c.tree-item.result c.tree-item.is c.loop-tree-test.true c.stmt.ensures c.loop-tree.invariant

pub stmts-returns : goal.stmts-returns
stmts-returns t c = end (λ xs. StmtsInRange (stmts_view xs)) (λ x. StmtInRange (stmt_view x)) (λ x xs h k. (h, k)) tt c.args.list.now c.loop-tree.tree-index c.loop-tree-test.false c.loop-tree.invariant
