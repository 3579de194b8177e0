use Rattle.std.proofs.Common.{drop, map}
use Rattle.mm_syntax.specs.View.{declarator_view}
use Rattle.mm_typing_valid.specs.Numbers.{DeclaratorsInRange}
use Rattle.mm_tree_numbers.proofs.declarators.Given as goal

abbrev pub invariant-loop-tree : goal.invariant-loop-tree
invariant-loop-tree l =
    DeclaratorsInRange (map declarator_view (drop l.tree-index l.list)) → DeclaratorsInRange (map declarator_view l.list)
