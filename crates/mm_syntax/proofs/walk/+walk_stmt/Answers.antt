use Rattle.mm_syntax.proofs.Walked.{stmts_more}
use Rattle.mm_syntax.proofs.walk.+walk_stmt.Goals as goal

pub stmts-loop-tree-preserved : goal.stmts-loop-tree-preserved
stmts-loop-tree-preserved t c =
    stmts_more c.args.wanted c.args.list.now c.loop-tree.tree-index
    c.tree-item.result c.loop-tree.first c.stmt.result c.or-first.result
    c.loop-tree-test.true c.tree-item.is c.loop-tree.invariant c.stmt.ensures c.or-first.ensures
