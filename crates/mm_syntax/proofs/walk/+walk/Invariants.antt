use Rattle.std.proofs.Common.{◌≡◌, take}
use Rattle.mm_syntax.specs.View.{exprs_view}
use Rattle.mm_syntax.specs.Forms.{first_of, exprs_marks}
use Rattle.mm_syntax.proofs.walk.+walk.Given as goal

-- the expressions so far
abbrev pub invariant-exprs-loop-tree : goal.invariant-exprs-loop-tree
invariant-exprs-loop-tree l =
    l.first ≡ first_of l.wanted (exprs_marks (exprs_view (take l.tree-index l.list)))
