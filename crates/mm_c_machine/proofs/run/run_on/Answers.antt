use Rattle.std.proofs.Common.{◌-◌, [], sym}
use Rattle.mm_base.specs.Calls.{world_view}
use Rattle.mm_c_placed.specs.View.{program_view, function_view}
use Rattle.mm_c_machine.specs.Answers.{state}
use Rattle.mm_c_machine.specs.State.{seen}
use Rattle.mm_c_machine.proofs.Giving.{function_there}
use Rattle.mm_c_machine.proofs.Running.{first_ready, inline_main, main_steps, no_step, runs_so}
use Rattle.mm_c_machine.proofs.run.run_on.Goals as goal

pub steps-requires-clause-fits : goal.steps-requires-clause-fits
steps-requires-clause-fits c =
    let there = function_there c.args.program.now c.args.program.now.main c.in-Some.main.now (sym (rw c.in-Some.is at c.function.ensures)) in
    first_ready (program_view c.args.program.now) (function_view c.in-Some.main.now) (seen c.in_ok-machine.machine) c.in_ok-machine.ensures.core c.requires c.args.program.now.main there

pub returns-then-main-clause-ok : goal.returns-then-main-clause-ok
returns-then-main-clause-ok c =
    let there = function_there c.args.program.now c.args.program.now.main c.in-Some.main.now (sym (rw c.in-Some.is at c.function.ensures)) in
    runs_so (program_view c.args.program.now) (seen c.in_ok-machine.machine) c.in_ok-machine.machine.memory (world_view c.args.world.now) (world_view c.steps.new.world) c.args.bound c.args.bound c.steps.result c.in_ok-machine.ensures.memory
    (inline_main (program_view c.args.program.now) (function_view c.in-Some.main.now) (seen c.in_ok-machine.machine) c.in_ok-machine.ensures.core (state [] (world_view c.args.world.now)) c.args.bound there c.if-main.true) c.steps.ensures.ok

pub returns-then-bound-eq0-clause-ok : goal.returns-then-bound-eq0-clause-ok
returns-then-bound-eq0-clause-ok c =
    let there = function_there c.args.program.now c.args.program.now.main c.in-Some.main.now (sym (rw c.in-Some.is at c.function.ensures)) in
    no_step (program_view c.args.program.now) (function_view c.in-Some.main.now) (world_view c.args.world.now) c.args.bound there c.if-main.false c.if-bound-eq0.true

pub steps-requires-2-clause-fits : goal.steps-requires-2-clause-fits
steps-requires-2-clause-fits c =
    let there = function_there c.args.program.now c.args.program.now.main c.in-Some.main.now (sym (rw c.in-Some.is at c.function.ensures)) in
    first_ready (program_view c.args.program.now) (function_view c.in-Some.main.now) (seen c.in_ok-machine-2.machine) c.in_ok-machine-2.ensures.core c.requires c.args.program.now.main there

pub returns-clause-ok : goal.returns-clause-ok
returns-clause-ok c =
    let there = function_there c.args.program.now c.args.program.now.main c.in-Some.main.now (sym (rw c.in-Some.is at c.function.ensures)) in
    runs_so (program_view c.args.program.now) (seen c.in_ok-machine-2.machine) c.in_ok-machine-2.machine.memory (world_view c.args.world.now) (world_view c.steps-2.new.world) c.args.bound (c.args.bound - 1) c.steps-2.result c.in_ok-machine-2.ensures.memory
    (main_steps (program_view c.args.program.now) (function_view c.in-Some.main.now) (seen c.in_ok-machine-2.machine) c.in_ok-machine-2.ensures.core (state [] (world_view c.args.world.now)) c.args.bound there c.if-main.false c.if-bound-eq0.false) c.steps-2.ensures.ok
