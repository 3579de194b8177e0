use Rattle.mm_c_memory.specs.Held.{AreEmpty}
use Rattle.mm_c_memory.proofs.memory.are_empty.Given as goal

abbrev pub invariant-loop-i : goal.invariant-loop-i
invariant-loop-i l = AreEmpty l.halves l.from l.i
