use Rattle.std.proofs.Common.{◌≤◌, length, ◌+◌, ◌*◌}
use Rattle.mm_parse_stmt.proofs.Exits.{StmtsSoFar}
use Rattle.mm_parse_stmt.proofs.stmt.+stmt.Given as goal

abbrev pub decreases-block_end : goal.decreases-block_end
decreases-block_end l = 2 * l.nesting + 1

abbrev pub decreases-do_end : goal.decreases-do_end
decreases-do_end l = 2 * l.nesting + 1

abbrev pub decreases-for_end : goal.decreases-for_end
decreases-for_end l = 2 * l.nesting + 1

abbrev pub decreases-if_end : goal.decreases-if_end
decreases-if_end l = 2 * l.nesting + 1

abbrev pub decreases-stmt : goal.decreases-stmt
decreases-stmt l = 2 * l.nesting

abbrev pub decreases-while_end : goal.decreases-while_end
decreases-while_end l = 2 * l.nesting + 1

abbrev pub invariant-block_end-loop-alloc : goal.invariant-block_end-loop-alloc
invariant-block_end-loop-alloc l = record { so_far : StmtsSoFar l.nesting l.stmts l.fn.cursor l.cursor; shorter : length l.cursor ≤ length l.fn.cursor }

abbrev pub decreases-block_end-loop-alloc : goal.decreases-block_end-loop-alloc
decreases-block_end-loop-alloc l = length l.cursor
