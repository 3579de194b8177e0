use Rattle.std.proofs.Common.{drop}
use Rattle.mm_syntax.specs.View.{exprs_view}
use Rattle.mm_typing_valid.specs.Numbers.{AreInRange}
use Rattle.mm_tree_numbers.proofs.+expr.Given as goal

abbrev pub invariant-exprs-loop-tree : goal.invariant-exprs-loop-tree
invariant-exprs-loop-tree l = AreInRange (exprs_view (drop l.tree-index l.list)) → AreInRange (exprs_view l.list)
