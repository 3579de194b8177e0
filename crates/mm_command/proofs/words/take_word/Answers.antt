use Rattle.std.proofs.Common.{◌∙◌, sym, ap, drop}
use Rattle.mm_command.specs.declared.words.Next.TheVariants as next
use Rattle.mm_command.specs.Command.{told, onto, value}
use Rattle.mm_command.proofs.Telling.{step_equal, rest_of}
use Rattle.mm_command.proofs.words.take_word.Goals as goal

pub returns-in_ok-add_bound-in-StepsEqual : goal.returns-in_ok-add_bound-in-StepsEqual
returns-in_ok-add_bound-in-StepsEqual c = λ ws.
    let w = c.args.word.now in
    let t = told c.args.bounded next.Word ws in
    let h = c.in_ok-add_bound-in-StepsEqual.ensures t in
    let k = sym c.kind.ensures ∙ c.in-StepsEqual.is in
    let s = step_equal c.args.bounded c.args.told.now w ws k in
    let b = c.as_bytes-bytes.ensures.value in
    let r = rest_of c.as_bytes-bytes.result.now c.min.result c.min.ensures in
    s ∙ sym (h ∙ ap (λ d. onto c.args.told.now (onto (value d) t)) (r ∙ ap (drop 8) b))
