use Rattle.std.proofs.Common.{◌≡◌, map, take}
use Rattle.std.specs.List.{flat_map}
use Rattle.mm_syntax.specs.View.{item_view}
use Rattle.mm_syntax.specs.Forms.{first_of, item_marks}
use Rattle.mm_syntax.proofs.walk.members.Given as goal

-- the members so far
abbrev pub invariant-loop-tree : goal.invariant-loop-tree
invariant-loop-tree l =
    l.first ≡ first_of l.wanted (flat_map item_marks (map item_view (take l.tree-index l.list)))
