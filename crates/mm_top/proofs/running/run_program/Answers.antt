use Rattle.mm_base.specs.Outside.{SourceSeen}
use Rattle.mm_command.specs.Outside.{Change}
use Rattle.mm_c.specs.CRun.{c_run}
use Rattle.mm_c.specs.View.{program_view}
use Rattle.mm_top.specs.Runs.{RefusesInput, RunsTo}
use Rattle.mm_top.proofs.Known.{if_ok}
use Rattle.mm_top.proofs.Runs.{on_numbers, refused_input}
use Rattle.mm_top.proofs.running.run_program.Goals as goal

pub returns-in_ok-run_on-in-Ok-clause-content : goal.returns-in_ok-run_on-in-Ok-clause-content
returns-in_ok-run_on-in-Ok-clause-content g c =
    let input : Change SourceSeen = record { old = g.I.Source.seen c.args.input.now; new = g.I.Source.seen c.read_input.new.input } in
    let r = c.in-Ok.ensures.content in
    on_numbers (λ ns. c_run (program_view c.args.program.now) ns c.args.steps) input c.in_ok-run_on-in-Ok.field-0 r.0 c.in-Ok.numbers.items r.1 r.2 c.in_ok-run_on-in-Ok.ensures

pub returns-in-Err-clause-content : goal.returns-in-Err-clause-content
returns-in-Err-clause-content g c =
    let input : Change SourceSeen = record { old = g.I.Source.seen c.args.input.now; new = g.I.Source.seen c.read_input.new.input } in
    if_ok (λ x. RefusesInput c.in-Err.end x)
    (λ x. RunsTo (λ ns. c_run (program_view c.args.program.now) ns c.args.steps) input x) c.refuse_input.result
    (λ x o. refused_input (λ ns. c_run (program_view c.args.program.now) ns c.args.steps) input x c.in-Err.end c.in-Err.ensures.content o)
    c.refuse_input.ensures
