use Rattle.std.proofs.Common.{◌≡◌, ◌++◌, map, take, drop}
use Rattle.mm_c_placed.specs.Meaning.{operand_of, start}
use Rattle.mm_c_machine.proofs.frame.push_operands.Given as goal

abbrev pub invariant-loop-a : goal.invariant-loop-a
invariant-loop-a l = l.values.items ≡ l.initial.values.items ++ map (operand_of (start (drop l.base l.initial.values.items))) (take l.a-index l.args)
