use Rattle.std.proofs.Common.{drop, map}
use Rattle.mm_syntax.specs.View.{decl_view}
use Rattle.mm_typing_valid.specs.Numbers.{DeclsInRange}
use Rattle.mm_tree_numbers.proofs.decls.Given as goal

abbrev pub invariant-loop-tree : goal.invariant-loop-tree
invariant-loop-tree l =
    DeclsInRange (map decl_view (drop l.tree-index l.list)) → DeclsInRange (map decl_view l.list)
