use Rattle.std.proofs.Common.{◌≡◌, drop}
use Rattle.mm_c_machine.specs.Answers.{are_ints}
use Rattle.mm_c_machine.proofs.prelude.all_ints.Given as goal

abbrev pub invariant-loop-v : goal.invariant-loop-v
invariant-loop-v l = are_ints l.values ≡ are_ints (drop l.v-index l.values)
