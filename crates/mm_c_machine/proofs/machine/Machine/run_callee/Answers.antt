use Rattle.std.proofs.Common.{◌∙◌}
use Rattle.mm_c_placed.specs.View.{code_view, program_view}
use Rattle.mm_base.specs.Calls.{world_view}
use Rattle.mm_c_machine.specs.State.{seen}
use Rattle.mm_c_machine.proofs.Moves.{no_callee}
use Rattle.mm_c_machine.proofs.machine.Machine.run_callee.Goals as goal

pub returns-in-None-clause-ok : goal.returns-in-None-clause-ok
returns-in-None-clause-ok c = λ t m holds ready is.
    no_callee (program_view c.args.program.now) (seen c.args.self.now).level (seen c.args.self.now).pieces m (world_view c.args.world.now) c.args.x t c.args.args.now (code_view c.args.more.now) (is ∙ c.in-None.is)
