use Rattle.mm_base.specs.Outside.{SourceSeen}
use Rattle.mm_command.specs.Outside.{Change}
use Rattle.mm_c.specs.CRun.{c_run}
use Rattle.mm_c.specs.View.{program_view}
use Rattle.mm_top.specs.Comes.{GoodText}
use Rattle.mm_top.specs.Runs.{RunsTo}
use Rattle.mm_top.specs.Texts.{RefusesText, RunsBytes}
use Rattle.mm_top.proofs.Known.{if_ok}
use Rattle.mm_top.proofs.Commands.{refused_text}
use Rattle.mm_top.proofs.text.run_text.Goals as goal

pub returns-in-Ok-clause-content : goal.returns-in-Ok-clause-content
returns-in-Ok-clause-content g c =
    let input : Change SourceSeen = record { old = g.I.Source.seen c.args.input.now; new = g.I.Source.seen c.run_program.new.input } in
    if_ok (λ x. RunsTo (λ ns. c_run (program_view c.in-Ok.program) ns c.args.steps) input x)
    (λ x. RunsBytes c.args.name.now c.args.text.now c.args.steps input x) c.run_program.result
    (λ x r. (GoodText (program_view c.in-Ok.program), c.in-Ok.ensures, r.0, r.1, r.2))
    c.run_program.ensures.content

pub returns-in-Err-clause-content : goal.returns-in-Err-clause-content
returns-in-Err-clause-content g c =
    let input : Change SourceSeen = record { old = g.I.Source.seen c.args.input.now; new = g.I.Source.seen c.args.input.now } in
    if_ok (λ x. RefusesText c.args.name.now c.in-Err.end x)
    (λ x. RunsBytes c.args.name.now c.args.text.now c.args.steps input x) c.refuse_text.result
    (λ x o. refused_text c.args.name.now c.args.text.now c.args.steps input x c.in-Err.end c.in-Err.ensures o)
    c.refuse_text.ensures
