use Rattle.std.proofs.Common.{length}
use Rattle.mm_c.specs.Grammar.{named}
use Rattle.mm_c_parse_item.proofs.Commas.{Listed}
use Rattle.mm_c_parse_item.proofs.kind.named_list.Given as goal

abbrev pub invariant-loop-alloc : goal.invariant-loop-alloc
invariant-loop-alloc l = record { so_far : Listed named l.list l.fn.cursor l.cursor }

abbrev pub decreases-loop-alloc : goal.decreases-loop-alloc
decreases-loop-alloc l = length l.cursor
