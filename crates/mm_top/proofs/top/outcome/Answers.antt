use Rattle.std.proofs.Common.{◌≡◌, Some, rules, subst}
use Rattle.mm_base.specs.Outside.{FilesSeen, SourceSeen}
use Rattle.mm_command.specs.declared.words.Command.TheVariants.{Check, Link}
use Rattle.mm_command.specs.Outside.{Change}
use Rattle.mm_top.specs.Steps.{ComesTo}
use Rattle.mm_top.proofs.Known.{if_ok}
use Rattle.mm_top.proofs.top.outcome.Goals as goal

pub returns-in-Some-Check-clause-content : goal.returns-in-Some-Check-clause-content
returns-in-Some-Check-clause-content g c =
    let files : Change FilesSeen = record { old = g.F.Files.seen c.args.files.now; new = g.F.Files.seen c.check.new.files } in
    let i : Change SourceSeen = record { old = g.I.Source.seen c.args.input.now; new = g.I.Source.seen c.args.input.now } in
    let asked : Some (Check c.as_str.result.now) ≡ c.args.asked.now = search rules in
    if_ok (λ x. (input : Change SourceSeen) → ComesTo (Some (Check c.as_str.result.now)) files input x)
    (λ x. ComesTo c.args.asked.now files i x) c.check.result
    (λ x h. subst (λ a. ComesTo a files i x) asked (h i))
    c.check.ensures.content

pub returns-in-Some-Link-clause-content : goal.returns-in-Some-Link-clause-content
returns-in-Some-Link-clause-content g c =
    let files : Change FilesSeen = record { old = g.F.Files.seen c.args.files.now; new = g.F.Files.seen c.link.new.files } in
    let i : Change SourceSeen = record { old = g.I.Source.seen c.args.input.now; new = g.I.Source.seen c.args.input.now } in
    let asked : Some (Link c.as_str-in-Some-Link.result.now) ≡ c.args.asked.now = search rules in
    if_ok (λ x. (input : Change SourceSeen) → ComesTo (Some (Link c.as_str-in-Some-Link.result.now)) files input x)
    (λ x. ComesTo c.args.asked.now files i x) c.link.result
    (λ x h. subst (λ a. ComesTo a files i x) asked (h i))
    c.link.ensures.content
