use Rattle.std.proofs.Common.{◌≤◌, length}
use Rattle.mm_cursor.proofs.Lists.{Listed}
use Rattle.mm_parse_function.specs.Parts.{next_init, init_list}
use Rattle.mm_parse_function.proofs.constructor.init_list.Given as goal

abbrev pub invariant-loop-alloc : goal.invariant-loop-alloc
invariant-loop-alloc l = record { so_far : Listed init_list next_init l.list l.fn.cursor l.cursor; shorter : length l.cursor ≤ length l.fn.cursor }

abbrev pub decreases-loop-alloc : goal.decreases-loop-alloc
decreases-loop-alloc l = length l.cursor
