use Rattle.std.proofs.Common.{◌≤◌, length}
use Rattle.mm_parse_unit.proofs.Exits.{DeclsSoFar}
use Rattle.mm_parse_unit.proofs.decls.decls.Given as goal

abbrev pub invariant-loop-alloc : goal.invariant-loop-alloc
invariant-loop-alloc l = record { so_far : DeclsSoFar l.nesting l.list l.fn.cursor l.cursor; shorter : length l.cursor ≤ length l.fn.cursor }

abbrev pub decreases-loop-alloc : goal.decreases-loop-alloc
decreases-loop-alloc l = length l.cursor
