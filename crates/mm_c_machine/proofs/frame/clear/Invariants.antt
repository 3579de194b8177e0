use Rattle.std.proofs.Common.{take}
use Rattle.mm_c_machine.proofs.Frames.{IsClearing}
use Rattle.mm_c_machine.proofs.frame.clear.Given as goal

abbrev pub invariant-loop-x : goal.invariant-loop-x
invariant-loop-x l = IsClearing l.base l.initial.values.items (take l.x-index l.xs) l.values.items
