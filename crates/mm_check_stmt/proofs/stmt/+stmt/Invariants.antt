use Rattle.std.proofs.Common.{◌+◌}
use Rattle.mm_syntax.specs.View.{stmt_view, stmts_view}
use Rattle.mm_check_stmt.specs.Results.{steps_view}
use Rattle.mm_check_stmt.proofs.Sizes.{size, sizes}
use Rattle.mm_check_stmt.proofs.Stmts.{StmtsSoFar}
use Rattle.mm_check_stmt.proofs.stmt.+stmt.Given as goal

abbrev pub decreases-check_stmt : goal.decreases-check_stmt
decreases-check_stmt l = size (stmt_view l.s.now)

abbrev pub decreases-check_block : goal.decreases-check_block
decreases-check_block l = sizes (stmts_view l.ss.now) + 1

abbrev pub decreases-check_if : goal.decreases-check_if
decreases-check_if l = size (stmt_view l.a.now) + 3

abbrev pub decreases-check_choice : goal.decreases-check_choice
decreases-check_choice l = size (stmt_view l.a.now) + size (stmt_view l.b.now) + 3

abbrev pub decreases-check_while : goal.decreases-check_while
decreases-check_while l = size (stmt_view l.a.now) + 3

abbrev pub decreases-check_do : goal.decreases-check_do
decreases-check_do l = size (stmt_view l.a.now) + 3

abbrev pub decreases-push_loop : goal.decreases-push_loop
decreases-push_loop l = size (stmt_view l.a.now) + 3

abbrev pub decreases-check_for : goal.decreases-check_for
decreases-check_for l = size (stmt_view l.a.now) + 5

abbrev pub decreases-check_inner : goal.decreases-check_inner
decreases-check_inner l = size (stmt_view l.s.now) + 1

abbrev pub decreases-check_stmts : goal.decreases-check_stmts
decreases-check_stmts l = sizes (stmts_view l.ss.now)

abbrev pub invariant-check_stmts-loop-s : goal.invariant-check_stmts-loop-s
invariant-check_stmts-loop-s l = StmtsSoFar l.here l.fn.env l.fn.locals l.ss l.s-index l.env l.locals (steps_view l.steps)
