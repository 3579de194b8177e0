use Rattle.std.proofs.Common.{◌≤◌, length}
use Rattle.mm_parse_class.proofs.Exits.{BasesSoFar}
use Rattle.mm_parse_class.proofs.base.base_list.Given as goal

abbrev pub invariant-loop-alloc : goal.invariant-loop-alloc
invariant-loop-alloc l = record { so_far : BasesSoFar l.list l.fn.cursor l.cursor; shorter : length l.cursor ≤ length l.fn.cursor }

abbrev pub decreases-loop-alloc : goal.decreases-loop-alloc
decreases-loop-alloc l = length l.cursor
