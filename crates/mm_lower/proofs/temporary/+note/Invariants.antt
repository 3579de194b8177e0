use Rattle.mm_c.specs.View.{stmt_view, code_view}
use Rattle.mm_lower.proofs.Noting.{depth_one, depth_code, SoFar}
use Rattle.mm_lower.proofs.temporary.+note.Given as goal

abbrev pub decreases-note_stmt : goal.decreases-note_stmt
decreases-note_stmt l = depth_one (stmt_view l.s.now)

abbrev pub decreases-note_code : goal.decreases-note_code
decreases-note_code l = depth_code (code_view l.code.now)

abbrev pub invariant-note_code-loop-s : goal.invariant-note_code-loop-s
invariant-note_code-loop-s l = SoFar l.fn.locals l.code l.s-index l.locals
