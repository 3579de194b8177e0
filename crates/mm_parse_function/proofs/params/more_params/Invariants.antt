use Rattle.std.proofs.Common.{◌≤◌, length}
use Rattle.mm_cursor.proofs.Lists.{Listed}
use Rattle.mm_parse_function.specs.Parts.{next_param, behind}
use Rattle.mm_parse_function.proofs.params.more_params.Given as goal

abbrev pub invariant-loop-alloc : goal.invariant-loop-alloc
invariant-loop-alloc l = record { so_far : Listed (behind l.fn.first) next_param l.list l.fn.cursor l.cursor; shorter : length l.cursor ≤ length l.fn.cursor }

abbrev pub decreases-loop-alloc : goal.decreases-loop-alloc
decreases-loop-alloc l = length l.cursor
