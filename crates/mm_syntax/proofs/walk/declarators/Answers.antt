use Rattle.mm_syntax.specs.View.{declarator_view}
use Rattle.mm_syntax.specs.Forms.{declarator_marks}
use Rattle.mm_syntax.proofs.Walked.{view_more}
use Rattle.mm_syntax.proofs.walk.declarators.Goals as goal

pub loop-tree-preserved : goal.loop-tree-preserved
loop-tree-preserved c =
    view_more declarator_view declarator_marks c.args.wanted c.args.list.now c.loop-tree.tree-index
    c.tree-item.result c.loop-tree.first c.declarator.result c.or-first.result
    c.loop-tree-test.true c.tree-item.is c.loop-tree.invariant c.declarator.ensures c.or-first.ensures
