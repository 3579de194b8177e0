use Rattle.mm_complete.proofs.Marks.{SoFar}
use Rattle.mm_complete.proofs.lack.mark.Given as goal

abbrev pub invariant-loop-number : goal.invariant-loop-number
invariant-loop-number l = SoFar l.fn.count l.numbers l.number-index l.marks.items
