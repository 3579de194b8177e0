use Rattle.std.proofs.Common.{◌≤◌, length}
use Rattle.mm_syntax.specs.Rules.{next_declarator}
use Rattle.mm_cursor.proofs.Lists.{Listed}
use Rattle.mm_parse_var.specs.Parts.{following}
use Rattle.mm_parse_var.proofs.vars.following.Given as goal

abbrev pub invariant-loop-alloc : goal.invariant-loop-alloc
invariant-loop-alloc l = record { so_far : Listed (following l.fn.first) next_declarator l.list l.fn.cursor l.cursor; shorter : length l.cursor ≤ length l.fn.cursor }

abbrev pub decreases-loop-alloc : goal.decreases-loop-alloc
decreases-loop-alloc l = length l.cursor
