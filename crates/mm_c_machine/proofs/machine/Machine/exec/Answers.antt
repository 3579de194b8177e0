use Rattle.std.proofs.Common.{ap, ◌∙◌}
use Rattle.mm_base.specs.Calls.{world_view}
use Rattle.mm_c_placed.specs.View.{code_view, stmt_view, program_view}
use Rattle.mm_c_placed.proofs.Views.{view-Locals, view-While}
use Rattle.mm_c_machine.specs.Frames.{with_zeros}
use Rattle.mm_c_machine.specs.State.{seen, frame_of, with_at, with_level, with_values, with_piece, rest, loop, code}
use Rattle.mm_c_machine.proofs.Statements.{cleared_at, begun_at}
use Rattle.mm_c_machine.proofs.machine.Machine.exec.Goals as goal

pub returns-in-Locals-clause-ok : goal.returns-in-Locals-clause-ok
returns-in-Locals-clause-ok c = λ m holds.
    cleared_at (program_view c.args.program.now) (seen c.args.self.now) m (world_view c.args.world.now) (stmt_view c.args.s.now) (code_view c.args.more.now) c.in-Locals.xs (seen c.clear.new.self) c.args.self.now.memory c.clear.new.self.memory
    (ap stmt_view c.in-Locals.is ∙ view-Locals c.in-Locals.xs)
    (c.clear.ensures.core ∙ ap (λ xs. with_at (with_level (seen c.args.self.now) (with_values (seen c.args.self.now).level (with_zeros xs (frame_of c.args.self.now)))) (code (code_view c.args.more.now))) c.as_slice.ensures)
    holds c.clear.ensures.memory c.requires.fits

pub returns-in_ok-begin-in-While-clause-ok : goal.returns-in_ok-begin-in-While-clause-ok
returns-in_ok-begin-in-While-clause-ok c = λ m holds.
    begun_at (program_view c.args.program.now) (seen c.args.self.now) m (world_view c.args.world.now) (stmt_view c.args.s.now) (code_view c.args.more.now) (code_view c.in-While.body) (seen c.begin.new.self) c.args.self.now.memory c.begin.new.self.memory
    (ap stmt_view c.in-While.is ∙ view-While c.in-While.body)
    (c.in_ok-begin-in-While.ensures.core ∙ ap (λ b. with_at (with_piece (with_piece (seen c.args.self.now) (rest (code_view c.args.more.now))) (loop (code_view b))) (code (code_view b))) c.as_slice-in-While.ensures)
    holds c.in_ok-begin-in-While.ensures.memory c.requires.fits
