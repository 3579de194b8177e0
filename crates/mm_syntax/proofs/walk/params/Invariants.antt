use Rattle.std.proofs.Common.{◌≡◌, take}
use Rattle.std.specs.List.{flat_map}
use Rattle.mm_syntax.specs.Forms.{first_of, param_marks}
use Rattle.mm_syntax.proofs.walk.params.Given as goal

-- the parameters so far
abbrev pub invariant-loop-tree : goal.invariant-loop-tree
invariant-loop-tree l =
    l.first ≡ first_of l.wanted (flat_map param_marks (take l.tree-index l.list))
