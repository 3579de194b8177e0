use Rattle.mm_c_placed.specs.View.{code_view}
use Rattle.mm_base.specs.Calls.{world_view}
use Rattle.mm_c_machine.specs.State.{seen}
use Rattle.mm_c_machine.proofs.Giving.{gives_on, gives_lost, gives_trap, gives_stuck}
use Rattle.mm_c_machine.proofs.machine.Machine.give.Goals as goal

pub returns-then-receive-clause-ok : goal.returns-then-receive-clause-ok
returns-then-receive-clause-ok c = λ p t m holds ready is.
    gives_on p (seen c.args.self.now) m (world_view c.args.world.now) c.args.x t c.args.args.now (code_view c.args.more.now) c.args.q c.in-Ok.v _ c.ask.new.self.memory _ (seen c.ask.new.self) _ c.receive.result ready is
    (c.in-Ok.ensures.answer m holds) c.in-Ok.ensures.core c.receive.ensures.core c.if-receive.true c.receive.ensures.memory

pub returns-else-receive-clause-ok : goal.returns-else-receive-clause-ok
returns-else-receive-clause-ok c = λ p t m holds ready is.
    gives_lost p (seen c.args.self.now) m (world_view c.args.world.now) c.args.x t c.args.args.now (code_view c.args.more.now) c.args.q c.in-Ok.v _ c.ask.new.self.memory (seen c.ask.new.self) _ c.receive.result is
    (c.in-Ok.ensures.answer m holds) c.in-Ok.ensures.core c.receive.ensures.core c.if-receive.false

pub returns-in-Trapped-clause-ok : goal.returns-in-Trapped-clause-ok
returns-in-Trapped-clause-ok c = λ p t m holds ready is.
    gives_trap p (seen c.args.self.now) m (world_view c.args.world.now) c.args.x t c.args.args.now (code_view c.args.more.now) c.args.q _ _ c.ask.new.self.memory is
    ((rw c.in-Trapped.is at c.in-Err.ensures.answer) m holds)

pub returns-in-Stuck-clause-ok : goal.returns-in-Stuck-clause-ok
returns-in-Stuck-clause-ok c = λ p t m holds ready is.
    gives_stuck p (seen c.args.self.now) m (world_view c.args.world.now) c.args.x t c.args.args.now (code_view c.args.more.now) c.args.q _ c.ask.new.self.memory is
    ((rw c.in-Stuck.is at c.in-Err.ensures.answer) m holds)

pub returns-in-NoMemory-clause-err : goal.returns-in-NoMemory-clause-err
returns-in-NoMemory-clause-err c = (rw c.in-NoMemory.is at c.in-Err.ensures.answer) c.requires.held.0 c.requires.held.1
