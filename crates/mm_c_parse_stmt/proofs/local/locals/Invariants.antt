use Rattle.std.proofs.Common.{length}
use Rattle.mm_c.specs.Grammar.{local}
use Rattle.mm_c_parse.proofs.Many.{ManySoFar}
use Rattle.mm_c_parse_stmt.proofs.local.locals.Given as goal

abbrev pub invariant-loop-alloc : goal.invariant-loop-alloc
invariant-loop-alloc l = record { so_far : ManySoFar local l.list l.fn.cursor l.cursor }

abbrev pub decreases-loop-alloc : goal.decreases-loop-alloc
decreases-loop-alloc l = length l.cursor
