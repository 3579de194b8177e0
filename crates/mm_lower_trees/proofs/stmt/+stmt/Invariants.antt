use Rattle.std.proofs.Common.{suc}
use Rattle.std.specs.Prelude.{max}
use Rattle.mm_core.specs.View.{stmt_view, stmts_view}
use Rattle.mm_c.specs.View.{code_view}
use Rattle.mm_lower_trees.proofs.Sizes.{depth_stmt, depth_stmts}
use Rattle.mm_lower_trees.proofs.Stmts.{SoFar}
use Rattle.mm_lower_trees.proofs.stmt.+stmt.Given as goal

abbrev pub decreases-lower_stmt : goal.decreases-lower_stmt
decreases-lower_stmt l = depth_stmt (stmt_view l.s.now)

abbrev pub decreases-lower_while : goal.decreases-lower_while
decreases-lower_while l = suc (depth_stmts (stmts_view l.ss.now))

abbrev pub decreases-lower_for : goal.decreases-lower_for
decreases-lower_for l = suc (max (depth_stmt (stmt_view l.step.now)) (depth_stmts (stmts_view l.ss.now)))

abbrev pub decreases-lower_stmts : goal.decreases-lower_stmts
decreases-lower_stmts l = depth_stmts (stmts_view l.ss.now)

abbrev pub invariant-lower_stmts-loop-s : goal.invariant-lower_stmts-loop-s
invariant-lower_stmts-loop-s l = SoFar l.fn.scope l.fn.t (code_view l.fn.code) l.ss l.s-index (code_view l.code)
