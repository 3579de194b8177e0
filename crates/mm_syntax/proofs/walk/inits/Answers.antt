use Rattle.mm_syntax.specs.View.{init_view}
use Rattle.mm_syntax.specs.Forms.{init_marks}
use Rattle.mm_syntax.proofs.Walked.{view_more}
use Rattle.mm_syntax.proofs.walk.inits.Goals as goal

pub loop-tree-preserved : goal.loop-tree-preserved
loop-tree-preserved c =
    view_more init_view init_marks c.args.wanted c.args.list.now c.loop-tree.tree-index
    c.tree-item.result c.loop-tree.first c.init.result c.or-first.result
    c.loop-tree-test.true c.tree-item.is c.loop-tree.invariant c.init.ensures c.or-first.ensures
