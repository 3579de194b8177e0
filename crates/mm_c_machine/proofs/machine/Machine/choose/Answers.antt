use Rattle.mm_c_placed.specs.View.{code_view}
use Rattle.mm_c_machine.specs.State.{seen}
use Rattle.mm_c_machine.proofs.Moves.{if_stuck}
use Rattle.mm_c_machine.proofs.machine.Machine.choose.Goals as goal

pub returns-in_default : goal.returns-in_default
returns-in_default c = λ q m w holds.
    if_stuck q (seen c.args.self.now).level (seen c.args.self.now).pieces m w c.args.a.now c.value.result (code_view c.args.b.now) (code_view c.args.d.now) (code_view c.args.more.now) c.value.ensures c.in_default.not-Int
