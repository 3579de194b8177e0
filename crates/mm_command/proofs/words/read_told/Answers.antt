use Rattle.std.proofs.Common.{◌∙◌, sym, ap, Some, map, drop, ◌∷◌, ◌+◌}
use Rattle.std.specs.Prelude.{string_bytes}
use Rattle.mm_command.specs.Command.{goes_on}
use Rattle.mm_command.proofs.Telling.{words_from}
use Rattle.mm_command.proofs.words.read_told.Goals as goal

pub returns-in-None : goal.returns-in-None
returns-in-None c =
    let s = words_from c.args.words.now c.loop-word.word-index c.word-item.result c.loop-word-test.true c.word-item.is in
    let h = c.in_ok-now.ensures in
    let y = c.as_str.ensures.value in
    let z = c.in-None.is in
    let ws = map string_bytes (drop (c.loop-word.word-index + 1) c.args.words.now) in
    let g = c.loop-word.invariant ∙ ap (goes_on c.args.bounded c.loop-word.told (Some c.loop-word.next)) s in
    sym (g ∙ ap (λ w. goes_on c.args.bounded c.loop-word.told (Some c.loop-word.next) (w ∷ ws)) (sym y) ∙ h ws
    ∙ ap (λ n. goes_on c.args.bounded c.take.new.told n ws) z)

pub loop-word-preserved : goal.loop-word-preserved
loop-word-preserved c =
    let s = words_from c.args.words.now c.loop-word.word-index c.word-item.result c.loop-word-test.true c.word-item.is in
    let h = c.in_ok-now.ensures in
    let y = c.as_str.ensures.value in
    let z = c.in-Some.is in
    let ws = map string_bytes (drop (c.loop-word.word-index + 1) c.args.words.now) in
    let g = c.loop-word.invariant ∙ ap (goes_on c.args.bounded c.loop-word.told (Some c.loop-word.next)) s in
    g ∙ ap (λ w. goes_on c.args.bounded c.loop-word.told (Some c.loop-word.next) (w ∷ ws)) (sym y) ∙ h ws
    ∙ ap (λ n. goes_on c.args.bounded c.take.new.told n ws) z
