use Rattle.std.proofs.Common.{[], Some, subst}
use Rattle.mm_base.specs.Outside.{FilesSeen, SourceSeen}
use Rattle.mm_core.specs.View.{program_view}
use Rattle.mm_command.specs.declared.words.Command.TheVariants.{Check}
use Rattle.mm_command.specs.Outside.{Change}
use Rattle.mm_command.specs.Due.{Accepted}
use Rattle.mm_command.specs.Writing.{IsOutcome}
use Rattle.mm_verdict.specs.Verdict.{IsSound}
use Rattle.mm_verdict.specs.Refusals.{Refuses}
use Rattle.mm_top.specs.Steps.{ComesTo, IsRefusal}
use Rattle.mm_top.proofs.Known.{if_ok}
use Rattle.mm_top.proofs.Commands.{checked, check_refused}
use Rattle.mm_top.proofs.check.check.Goals as goal

pub returns-in-Ok-clause-content : goal.returns-in-Ok-clause-content
returns-in-Ok-clause-content g c =
    let files : Change FilesSeen = record { old = g.F.Files.seen c.args.files.now; new = g.F.Files.seen c.sound_unit.new.files } in
    let p = program_view [] c.in-Ok.field-0 in
    let sound = subst (λ u. IsSound u files.old.held c.args.name.now p) c.unbuilt_in_check.ensures c.in-Ok.ensures.content in
    if_ok (λ x. IsOutcome Accepted x)
    (λ x. (input : Change SourceSeen) → ComesTo (Some (Check c.args.name.now)) files input x) c.accepted.result
    (λ x o input. checked files input c.args.name.now x p sound o)
    c.accepted.ensures

pub returns-clause-content : goal.returns-clause-content
returns-clause-content g c =
    let files : Change FilesSeen = record { old = g.F.Files.seen c.args.files.now; new = g.F.Files.seen c.sound_unit.new.files } in
    let refuses = subst (λ u. Refuses u c.in-Err.reason files c.args.name.now) c.unbuilt_in_check.ensures c.in-Err.ensures.content in
    if_ok (λ x. IsRefusal c.in-Err.reason x)
    (λ x. (input : Change SourceSeen) → ComesTo (Some (Check c.args.name.now)) files input x) c.refused.result
    (λ x o input. check_refused files input c.args.name.now x c.in-Err.reason refuses o)
    c.refused.ensures
