use Rattle.mm_c_placed.specs.View.{code_view, program_view}
use Rattle.mm_c_machine.specs.State.{seen, with_at, code}
use Rattle.mm_c_machine.specs.Ready.{weight}
use Rattle.mm_c_machine.proofs.Walks.{OnWalk}
use Rattle.mm_c_machine.proofs.machine.Machine.walk.Given as goal

abbrev pub invariant-loop-next : goal.invariant-loop-next
invariant-loop-next l = OnWalk (program_view l.program) (with_at (seen l.initial.self) (code (code_view l.stmts))) l.initial.self.memory (with_at (seen l.self) (code (code_view l.left))) l.self.memory

abbrev pub decreases-loop-next : goal.decreases-loop-next
decreases-loop-next l = weight (program_view l.program) (with_at (seen l.self) (code (code_view l.left)))
