use Rattle.mm_syntax.proofs.Walked.{exprs_more}
use Rattle.mm_syntax.proofs.walk.+walk.Goals as goal

pub exprs-loop-tree-preserved : goal.exprs-loop-tree-preserved
exprs-loop-tree-preserved t c =
    exprs_more c.args.wanted c.args.list.now c.loop-tree.tree-index
    c.tree-item.result c.loop-tree.first c.expr.result c.or-first.result
    c.loop-tree-test.true c.tree-item.is c.loop-tree.invariant c.expr.ensures c.or-first.ensures
