use Rattle.std.proofs.Common.{length}
use Rattle.mm_c.specs.Grammar.{kind}
use Rattle.mm_c_parse_item.proofs.Commas.{Listed}
use Rattle.mm_c_parse_item.proofs.kind.kind_list.Given as goal

abbrev pub invariant-loop-cursor : goal.invariant-loop-cursor
invariant-loop-cursor l = record { so_far : Listed kind l.list l.fn.cursor l.cursor }

abbrev pub decreases-loop-cursor : goal.decreases-loop-cursor
decreases-loop-cursor l = length l.cursor
