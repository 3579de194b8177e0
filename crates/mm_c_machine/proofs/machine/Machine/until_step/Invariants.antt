use Rattle.mm_base.specs.Calls.{world_view}
use Rattle.mm_c_placed.specs.View.{program_view}
use Rattle.mm_c_machine.specs.State.{seen}
use Rattle.mm_c_machine.specs.Ready.{weight}
use Rattle.mm_c_machine.proofs.Ways.{OnWay}
use Rattle.mm_c_machine.proofs.machine.Machine.until_step.Given as goal

abbrev pub invariant-loop-e : goal.invariant-loop-e
invariant-loop-e l = OnWay (program_view l.program) (seen l.initial.self) l.initial.self.memory (world_view l.initial.world) (seen l.self) l.self.memory (world_view l.world)

abbrev pub decreases-loop-e : goal.decreases-loop-e
decreases-loop-e l = weight (program_view l.program) (seen l.self)
