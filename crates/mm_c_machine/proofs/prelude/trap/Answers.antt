use Rattle.std.proofs.Common.{refl}
use Rattle.mm_c_machine.specs.Answers.{state}
use Rattle.mm_c_machine.proofs.Answering.{trap_stuck}
use Rattle.mm_c_machine.proofs.prelude.trap.Goals as goal

pub returns-then-values-ne1 : goal.returns-then-values-ne1
returns-then-values-ne1 c = λ m w held. (refl, λ k. trap_stuck c.args.values.now c.if-values-ne1.true (state m w) k)
