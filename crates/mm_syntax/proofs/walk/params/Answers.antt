use Rattle.mm_syntax.specs.Forms.{param_marks}
use Rattle.mm_syntax.proofs.Walked.{one_more}
use Rattle.mm_syntax.proofs.walk.params.Goals as goal

pub loop-tree-preserved : goal.loop-tree-preserved
loop-tree-preserved c =
    one_more param_marks c.args.wanted c.args.list.now c.loop-tree.tree-index
    c.tree-item.result c.loop-tree.first c.param.result c.or-first.result
    c.loop-tree-test.true c.tree-item.is c.loop-tree.invariant c.param.ensures c.or-first.ensures
