use Rattle.mm_c_memory.specs.Held.{WithInside}
use Rattle.mm_c_memory.proofs.memory.put_inside.Given as goal

abbrev pub invariant-loop-i : goal.invariant-loop-i
invariant-loop-i l = WithInside l.initial.halves.items l.from l.i l.halves.items
