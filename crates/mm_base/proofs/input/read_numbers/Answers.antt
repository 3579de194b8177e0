use Rattle.std.proofs.Common.{rules, ◌++◌, ◌∷◌, [], ◌∙◌, ◌≡◌, ap}
use Rattle.mm_base.proofs.Lines.{numbers_more}
use Rattle.mm_base.proofs.input.read_numbers.Goals as goal

pub loop-rest-preserved : goal.loop-rest-preserved
loop-rest-preserved c =
    let kept = c.loop-rest.invariant in
    let said = c.in-Some.ensures in
    let pushed : c.push.new.self.items ≡ c.loop-rest.numbers.items ++ c.in-Some.number ∷ [] = search rules in
    let more = numbers_more c.args.bytes.now c.first_line.result.0.now c.first_line.result.1.now c.loop-rest.numbers.items c.in-Some.number kept.0 (kept.1 ∙ ap (λ ls. kept.0 ++ ls) c.first_line.ensures.cut) kept.2 kept.3 said.0 said.1 in
    (more.0, more.1, more.2, pushed ∙ more.3)
