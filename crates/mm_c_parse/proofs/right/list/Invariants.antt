use Rattle.std.proofs.Common.{◌++◌, length}
use Rattle.mm_grammar.proofs.Loops.{SoFar}
use Rattle.mm_c.specs.Grammar.{texts, listed, atom, w, ◌▸◌}
use Rattle.mm_c_parse.proofs.right.list.Given as goal

abbrev pub invariant-loop-alloc : goal.invariant-loop-alloc
invariant-loop-alloc l = record { so_far : SoFar texts (listed atom) (w 27 ▸ atom) (λ xs. l.list ++ xs) l.fn.cursor l.cursor }

abbrev pub decreases-loop-alloc : goal.decreases-loop-alloc
decreases-loop-alloc l = length l.cursor
