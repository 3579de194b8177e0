use Rattle.std.proofs.Common.{ap, reverse}
use Rattle.mm_c_placed.specs.View.{code_view}
use Rattle.mm_c_machine.specs.State.{seen, at_view, flow_view, level_of, pieces_of, below, pieces_below}
use Rattle.mm_c_machine.proofs.Moves.{core}
use Rattle.mm_c_machine.proofs.Arrivals.{back_stuck, back_goes_at, back_lost_at}
use Rattle.mm_c_machine.proofs.machine.Machine.come_back.Goals as goal

pub returns-in-None : goal.returns-in-None
returns-in-None c = λ p m w holds h.
    back_stuck p (seen c.args.self.now).level m w (pieces_below c.args.self.now c.args.frame) (flow_view c.args.flow) c.args.x (below c.args.self.now c.args.frame) (code_view c.args.more.now) (rw c.in-None.is at c.left.ensures)

pub returns-then-receive : goal.returns-then-receive
returns-then-receive c = λ p m w holds h.
    back_goes_at p (seen c.args.self.now).level m w (pieces_below c.args.self.now c.args.frame) (flow_view c.args.flow) c.args.x (below c.args.self.now c.args.frame) (code_view c.args.more.now) c.in-Some.v (at_view c.args.self.now.here) c.args.self.now.memory _ _ _ c.receive.result (rw c.in-Some.is at c.left.ensures) holds c.receive.ensures.memory h
    (ap (λ q. core (at_view c.args.self.now.here) (level_of c.args.frame q) (pieces_of (reverse c.args.self.now.pending.items) c.args.frame.base q)) c.truncate.ensures.items) c.receive.ensures.core c.if-receive.true

pub returns-else-receive : goal.returns-else-receive
returns-else-receive c = λ p m w holds h.
    back_lost_at p (seen c.args.self.now).level m w (pieces_below c.args.self.now c.args.frame) (flow_view c.args.flow) c.args.x (below c.args.self.now c.args.frame) (code_view c.args.more.now) c.in-Some.v (at_view c.args.self.now.here) _ _ c.receive.result (rw c.in-Some.is at c.left.ensures)
    (ap (λ q. core (at_view c.args.self.now.here) (level_of c.args.frame q) (pieces_of (reverse c.args.self.now.pending.items) c.args.frame.base q)) c.truncate.ensures.items) c.receive.ensures.core c.if-receive.false
