use Rattle.std.proofs.Common.{length}
use Rattle.mm_c_parse_item.proofs.Programs.{ItemsSoFar}
use Rattle.mm_c_parse_item.proofs.program.items.Given as goal

abbrev pub invariant-loop-alloc : goal.invariant-loop-alloc
invariant-loop-alloc l = record { so_far : ItemsSoFar l.list l.fn.places l.places l.fn.cursor l.cursor }

abbrev pub decreases-loop-alloc : goal.decreases-loop-alloc
decreases-loop-alloc l = length l.cursor
