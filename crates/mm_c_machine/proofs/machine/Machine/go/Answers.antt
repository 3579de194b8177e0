use Rattle.mm_base.specs.Calls.{world_view}
use Rattle.mm_c_placed.specs.View.{program_view}
use Rattle.mm_c_machine.specs.State.{seen}
use Rattle.mm_c_machine.proofs.Statements.{stuck_here}
use Rattle.mm_c_machine.proofs.machine.Machine.go.Goals as goal

pub returns-in-Stuck-clause-ok : goal.returns-in-Stuck-clause-ok
returns-in-Stuck-clause-ok c = λ m holds.
    stuck_here (program_view c.args.program.now) c.args.self.now.here (seen c.args.self.now).level (seen c.args.self.now).pieces m (world_view c.args.world.now) c.in-Stuck.is
