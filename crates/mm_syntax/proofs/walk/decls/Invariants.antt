use Rattle.std.proofs.Common.{◌≡◌, map, take}
use Rattle.std.specs.List.{flat_map}
use Rattle.mm_syntax.specs.View.{decl_view}
use Rattle.mm_syntax.specs.Forms.{first_of, decl_marks}
use Rattle.mm_syntax.proofs.walk.decls.Given as goal

-- the declarations so far
abbrev pub invariant-loop-tree : goal.invariant-loop-tree
invariant-loop-tree l =
    l.first ≡ first_of l.wanted (flat_map decl_marks (map decl_view (take l.tree-index l.list)))
