use Rattle.std.proofs.Common.{sym, ap, ◌∙◌, Some}
use Rattle.mm_c_placed.specs.View.{code_view, program_view, function_view}
use Rattle.mm_base.specs.Calls.{world_view}
use Rattle.mm_c_machine.specs.State.{seen}
use Rattle.mm_c_machine.proofs.Moves.{no_function}
use Rattle.mm_c_machine.proofs.Giving.{enters_if, function_there, function_none}
use Rattle.mm_c_machine.proofs.machine.Machine.run_found.Goals as goal

pub returns-in-None-clause-ok : goal.returns-in-None-clause-ok
returns-in-None-clause-ok c = λ t m holds ready is.
    let none = rw c.in-None.is at c.function.ensures in
    no_function (program_view c.args.program.now) (seen c.args.self.now).level (seen c.args.self.now).pieces m (world_view c.args.world.now) c.args.x t c.args.args.now (code_view c.args.more.now) c.in-Function.n (is ∙ ap Some c.in-Function.is) (function_none c.args.program.now c.in-Function.n (sym none))

pub returns-in-Some-clause-ok : goal.returns-in-Some-clause-ok
returns-in-Some-clause-ok c =
    let some = rw c.in-Some.is at c.function.ensures in
    enters_if (program_view c.args.program.now) (seen c.args.self.now) (world_view c.args.world.now) c.args.x c.args.args.now (code_view c.args.more.now) c.call.result c.args.f c.in-Function.n (function_view c.in-Some.g.now) (seen c.call.new.self) c.args.self.now.memory c.call.new.self.memory c.call.ensures.memory c.in-Function.is (function_there c.args.program.now c.in-Function.n c.in-Some.g.now (sym some)) c.requires.ready c.call.ensures.core
