use Rattle.std.proofs.Common.{[], Some, sym, subst}
use Rattle.mm_base.specs.Outside.{FilesSeen, SourceSeen}
use Rattle.mm_command.specs.Outside.{Change}
use Rattle.mm_core.specs.Run.{source_run}
use Rattle.mm_core.specs.View.{program_view}
use Rattle.mm_agree.specs.Translates.{outcome_in_c}
use Rattle.mm_command.specs.declared.words.Command.TheVariants.{Run}
use Rattle.mm_verdict.specs.Verdict.{IsSound, unbuilt_in_link}
use Rattle.mm_verdict.specs.Refusals.{Refuses}
use Rattle.mm_top.specs.Runs.{RunsTo}
use Rattle.mm_top.specs.Steps.{ComesTo, IsRefusal}
use Rattle.mm_top.proofs.Known.{if_ok}
use Rattle.mm_top.proofs.Commands.{runs, run_refused}
use Rattle.mm_top.proofs.unit.run.Goals as goal

pub returns-in-Ok-clause-content : goal.returns-in-Ok-clause-content
returns-in-Ok-clause-content g c =
    let files : Change FilesSeen = record { old = g.F.Files.seen c.args.files.now; new = g.F.Files.seen c.sound_unit.new.files } in
    let input : Change SourceSeen = record { old = g.I.Source.seen c.args.input.now; new = g.I.Source.seen c.run_functions.new.input } in
    let sound = subst (λ u. IsSound u files.old.held c.args.name.now (program_view [] c.in-Ok.functions)) c.unbuilt_in_link.ensures c.in-Ok.ensures.content in
    if_ok (λ x. RunsTo (λ ns. outcome_in_c (source_run (program_view [] c.as_slice.result.now) ns c.args.steps)) input x)
    (λ x. ComesTo (Some (Run c.args.name.now c.args.steps)) files input x) c.run_functions.result
    (λ x r. runs files input c.args.name.now x c.args.steps (program_view [] c.as_slice.result.now) (subst (λ fs. IsSound unbuilt_in_link files.old.held c.args.name.now (program_view [] fs)) (sym c.as_slice.ensures) sound) r)
    c.run_functions.ensures.content

pub returns-in-Err-clause-content : goal.returns-in-Err-clause-content
returns-in-Err-clause-content g c =
    let files : Change FilesSeen = record { old = g.F.Files.seen c.args.files.now; new = g.F.Files.seen c.sound_unit.new.files } in
    let input : Change SourceSeen = record { old = g.I.Source.seen c.args.input.now; new = g.I.Source.seen c.args.input.now } in
    let refuses = subst (λ u. Refuses u c.in-Err.reason files c.args.name.now) c.unbuilt_in_link.ensures c.in-Err.ensures.content in
    if_ok (λ x. IsRefusal c.in-Err.reason x)
    (λ x. ComesTo (Some (Run c.args.name.now c.args.steps)) files input x) c.refused.result
    (λ x o. run_refused files input c.args.name.now x c.args.steps c.in-Err.reason refuses o)
    c.refused.ensures
