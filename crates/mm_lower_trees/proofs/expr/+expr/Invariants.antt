use Rattle.mm_core.specs.View.{expr_view, exprs_view}
use Rattle.mm_c.specs.View.{code_view}
use Rattle.mm_lower_trees.proofs.Sizes.{depth, depth_all}
use Rattle.mm_lower_trees.proofs.Exprs.{SoFar}
use Rattle.mm_lower_trees.proofs.expr.+expr.Given as goal

abbrev pub decreases-lower_expr : goal.decreases-lower_expr
decreases-lower_expr l = depth (expr_view l.e.now)

abbrev pub decreases-lower_all : goal.decreases-lower_all
decreases-lower_all l = depth_all (exprs_view l.es.now)

abbrev pub invariant-lower_all-loop-e : goal.invariant-lower_all-loop-e
invariant-lower_all-loop-e l = SoFar l.fn.scope l.fn.t (code_view l.fn.code) l.es l.e-index l.at (code_view l.code) l.atoms
