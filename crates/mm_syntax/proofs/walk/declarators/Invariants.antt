use Rattle.std.proofs.Common.{◌≡◌, map, take}
use Rattle.std.specs.List.{flat_map}
use Rattle.mm_syntax.specs.View.{declarator_view}
use Rattle.mm_syntax.specs.Forms.{first_of, declarator_marks}
use Rattle.mm_syntax.proofs.walk.declarators.Given as goal

-- the variables so far
abbrev pub invariant-loop-tree : goal.invariant-loop-tree
invariant-loop-tree l =
    l.first ≡ first_of l.wanted (flat_map declarator_marks (map declarator_view (take l.tree-index l.list)))
