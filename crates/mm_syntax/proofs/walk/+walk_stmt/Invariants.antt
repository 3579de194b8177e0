use Rattle.std.proofs.Common.{◌≡◌, take}
use Rattle.mm_syntax.specs.View.{stmts_view}
use Rattle.mm_syntax.specs.Forms.{first_of, stmts_marks}
use Rattle.mm_syntax.proofs.walk.+walk_stmt.Given as goal

-- the statements so far
abbrev pub invariant-stmts-loop-tree : goal.invariant-stmts-loop-tree
invariant-stmts-loop-tree l =
    l.first ≡ first_of l.wanted (stmts_marks (stmts_view (take l.tree-index l.list)))
