use Rattle.std.proofs.Common.{◌≡◌, length, ap, arith}
use Rattle.mm_c_placed.specs.View.{code_view}
use Rattle.mm_c_machine.specs.State.{seen, flow_view, code}
use Rattle.mm_c_machine.proofs.Stack.{pieces_last, pieces_none}
use Rattle.mm_c_machine.proofs.Moves.{core}
use Rattle.mm_c_machine.proofs.Arrivals.{bottom_returns_at, bottom_stuck_at, loop_again_at}
use Rattle.mm_c_machine.proofs.machine.Machine.arrive.Goals as goal

pub returns-in-None-left : goal.returns-in-None-left
returns-in-None-left c = λ p m w holds.
    let none : length c.args.self.now.pending.items ≡ 0 = omega (arith, c.in-None.ensures.cases.0, c.args.self.now.pending.ok.0) in
    bottom_stuck_at p (seen c.args.self.now).level m w (flow_view c.args.flow) _ (pieces_none c.args.self.now.pending.items c.args.self.now.frame.base c.args.self.now.values.items none) (rw c.in-None-left.is at c.left.ensures)

pub returns-in-Some : goal.returns-in-Some
returns-in-Some c = λ p m w holds.
    let none : length c.args.self.now.pending.items ≡ 0 = omega (arith, c.in-None.ensures.cases.0, c.args.self.now.pending.ok.0) in
    bottom_returns_at p (seen c.args.self.now).level m w (flow_view c.args.flow) c.in-Some.v _ (pieces_none c.args.self.now.pending.items c.args.self.now.frame.base c.args.self.now.values.items none) (rw c.in-Some.is at c.left.ensures)

pub returns-in-Next-flow : goal.returns-in-Next-flow
returns-in-Next-flow c = λ p m w holds.
    let is = rw c.in-Some-Loop.field-0-is at c.in-Some-Loop.ensures.items in
    loop_again_at p (seen c.args.self.now).level m w c.args.self.now.memory c.args.flow _ (code_view c.in-Some-Loop.body.now) _ _ holds c.in-Next-flow.is (pieces_last _ _ _ c.args.self.now.frame.base c.args.self.now.values.items is)
    (ap (λ q. core (code (code_view c.in-Some-Loop.body.now)) (seen c.args.self.now).level q) (pieces_last _ _ _ c.args.self.now.frame.base c.args.self.now.values.items c.push_reserved.ensures.items)) c.requires
