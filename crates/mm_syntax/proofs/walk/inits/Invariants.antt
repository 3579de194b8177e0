use Rattle.std.proofs.Common.{◌≡◌, map, take}
use Rattle.std.specs.List.{flat_map}
use Rattle.mm_syntax.specs.View.{init_view}
use Rattle.mm_syntax.specs.Forms.{first_of, init_marks}
use Rattle.mm_syntax.proofs.walk.inits.Given as goal

-- the initializers so far
abbrev pub invariant-loop-tree : goal.invariant-loop-tree
invariant-loop-tree l =
    l.first ≡ first_of l.wanted (flat_map init_marks (map init_view (take l.tree-index l.list)))
