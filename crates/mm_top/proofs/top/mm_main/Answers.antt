use Rattle.std.proofs.Common.{arith, refl, subst, map}
use Rattle.std.specs.Prelude.{string_bytes}
use Rattle.mm_command.specs.Command.{command}
use Rattle.mm_command.specs.Outside.{Outside}
use Rattle.mm_command.specs.Answers.{InputKept}
use Rattle.mm_top.specs.Steps.{ComesTo}
use Rattle.mm_top.proofs.Commands.{input_same, files_same, all_kept, finished, unfinished}
use Rattle.mm_top.proofs.top.mm_main.Goals as goal

pub returns-in_default : goal.returns-in_default
returns-in_default g c =
    let asked = command (map (λ w. string_bytes w) c.args.words.now) in
    let f = g.F.Files.seen c.args.files.now in
    let i = g.I.Source.seen c.args.input.now in
    let u = g.O.Sink.seen c.args.out.now in
    let o : Outside = record { files = record { old = f; new = f }; input = record { old = i; new = i }; out = record { old = u; new = u }; err = record { old = g.E.Sink.seen c.args.err.now; new = g.E.Sink.seen c.say_no_memory.new.err } } in
    record { answers = unfinished asked o c.say_no_memory.result (all_kept asked o (files_same f) (input_same asked o.input refl) (omega arith) c.say_no_memory.ensures.later) refl c.say_no_memory.ensures.content }

pub returns-in-Ok-outcome : goal.returns-in-Ok-outcome
returns-in-Ok-outcome g c =
    let asked = command (map (λ w. string_bytes w) c.args.words.now) in
    let o : Outside = record { files = record { old = g.F.Files.seen c.args.files.now; new = g.F.Files.seen c.outcome.new.files }; input = record { old = g.I.Source.seen c.args.input.now; new = g.I.Source.seen c.outcome.new.input }; out = record { old = g.O.Sink.seen c.args.out.now; new = g.O.Sink.seen c.finish.new.out }; err = record { old = g.E.Sink.seen c.args.err.now; new = g.E.Sink.seen c.finish.new.err } } in
    let kept = subst (λ a. InputKept a o.input) c.in-Ok.ensures c.in-Ok-outcome.ensures.input in
    let comes = subst (λ a. ComesTo a o.files o.input c.in-Ok-outcome.outcome) c.in-Ok.ensures c.in-Ok-outcome.ensures.content in
    record { answers = finished asked o c.in-Ok-outcome.outcome c.finish.result (all_kept asked o c.in-Ok-outcome.ensures.files kept c.finish.ensures.out c.finish.ensures.err) comes c.finish.ensures.content }

pub returns : goal.returns
returns g c =
    let asked = command (map (λ w. string_bytes w) c.args.words.now) in
    let u = g.O.Sink.seen c.args.out.now in
    let o : Outside = record { files = record { old = g.F.Files.seen c.args.files.now; new = g.F.Files.seen c.outcome.new.files }; input = record { old = g.I.Source.seen c.args.input.now; new = g.I.Source.seen c.outcome.new.input }; out = record { old = u; new = u }; err = record { old = g.E.Sink.seen c.args.err.now; new = g.E.Sink.seen c.say_no_memory-in-Err.new.err } } in
    let kept = subst (λ a. InputKept a o.input) c.in-Ok.ensures c.in-Err.ensures.input in
    record { answers = unfinished asked o c.say_no_memory-in-Err.result (all_kept asked o c.in-Err.ensures.files kept (omega arith) c.say_no_memory-in-Err.ensures.later) refl c.say_no_memory-in-Err.ensures.content }
