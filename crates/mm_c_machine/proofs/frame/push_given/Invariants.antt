use Rattle.std.proofs.Common.{◌≡◌, ◌++◌, map, take, drop}
use Rattle.mm_c_placed.specs.Meaning.{operand_of, start}
use Rattle.mm_c_machine.specs.Frames.{fitted_all}
use Rattle.mm_c_machine.proofs.frame.push_given.Given as goal

abbrev pub invariant-loop-i : goal.invariant-loop-i
invariant-loop-i l = l.values.items ≡ l.initial.values.items ++ take l.i (fitted_all l.params (map (operand_of (start (drop l.base l.initial.values.items))) l.args))
