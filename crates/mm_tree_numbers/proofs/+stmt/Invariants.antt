use Rattle.std.proofs.Common.{drop}
use Rattle.mm_syntax.specs.View.{stmts_view}
use Rattle.mm_typing_valid.specs.Numbers.{StmtsInRange}
use Rattle.mm_tree_numbers.proofs.+stmt.Given as goal

abbrev pub invariant-stmts-loop-tree : goal.invariant-stmts-loop-tree
invariant-stmts-loop-tree l = StmtsInRange (stmts_view (drop l.tree-index l.list)) → StmtsInRange (stmts_view l.list)
