use Rattle.mm_syntax.specs.View.{item_view}
use Rattle.mm_syntax.specs.Forms.{item_marks}
use Rattle.mm_syntax.proofs.Walked.{view_more}
use Rattle.mm_syntax.proofs.walk.members.Goals as goal

pub loop-tree-preserved : goal.loop-tree-preserved
loop-tree-preserved c =
    view_more item_view item_marks c.args.wanted c.args.list.now c.loop-tree.tree-index
    c.tree-item.result c.loop-tree.first c.member.result c.or-first.result
    c.loop-tree-test.true c.tree-item.is c.loop-tree.invariant c.member.ensures c.or-first.ensures
