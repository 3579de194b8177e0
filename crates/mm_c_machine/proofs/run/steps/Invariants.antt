use Rattle.mm_base.specs.Calls.{world_view}
use Rattle.mm_c_placed.specs.View.{program_view}
use Rattle.mm_c_machine.specs.State.{seen}
use Rattle.mm_c_machine.proofs.Running.{OnRun}
use Rattle.mm_c_machine.proofs.run.steps.Given as goal

abbrev pub invariant-loop-e : goal.invariant-loop-e
invariant-loop-e l = OnRun (program_view l.program) (seen l.initial.machine) l.initial.machine.memory (world_view l.initial.world) l.bound (seen l.machine) l.machine.memory (world_view l.world) l.left

abbrev pub decreases-loop-e : goal.decreases-loop-e
decreases-loop-e l = l.left
