use Rattle.std.proofs.Common.{◌∙◌, sym, ap, map}
use Rattle.mm_overload.specs.Choice.{choice_if}
use Rattle.mm_overload.proofs.Choosing.{choice-is, best-of-None, best-of-Some, params-map}
use Rattle.mm_overload.proofs.choice.get_best.Goals as goal

pub returns-in_default : goal.returns-in_default
returns-in_default c =
    let none = c.in_default.not-Some in
    let e = sym (best-of-None c.args.graph.now c.args.args.now (map (λ x. x.now)
    c.args.candidates.now) (sym c.find_champion.ensures.is ∙ cc)) in
    record {
      is = e;
      choice = choice-is c.args.graph.now c.args.args.now (map (λ x. x.now)
          c.args.candidates.now) _ e;
    }

pub returns-then-is_over_all : goal.returns-then-is_over_all
returns-then-is_over_all c =
    let won = sym c.is_over_all.ensures ∙ c.if-is_over_all.true in
    let at = params-map (λ x. x.now) c.args.candidates.now c.in-Some.w c.index-candidates-w.result
    c.index-candidates-w.is c.in-Some.ensures.low in
    let e = sym (best-of-Some c.args.graph.now c.args.args.now (map (λ x. x.now)
    c.args.candidates.now) c.in-Some.w c.index-candidates-w.result.now at (sym
    c.find_champion.ensures.is ∙ c.in-Some.is) ∙ ap (λ b. choice_if b c.in-Some.w) won) in
    record {
      is = e;
      choice = choice-is c.args.graph.now c.args.args.now (map (λ x. x.now)
          c.args.candidates.now) _ e;
    }

pub returns : goal.returns
returns c =
    let won = sym c.is_over_all.ensures ∙ c.if-is_over_all.false in
    let at = params-map (λ x. x.now) c.args.candidates.now c.in-Some.w c.index-candidates-w.result
    c.index-candidates-w.is c.in-Some.ensures.low in
    let e = sym (best-of-Some c.args.graph.now c.args.args.now (map (λ x. x.now)
    c.args.candidates.now) c.in-Some.w c.index-candidates-w.result.now at (sym
    c.find_champion.ensures.is ∙ c.in-Some.is) ∙ ap (λ b. choice_if b c.in-Some.w) won) in
    record {
      is = e;
      choice = choice-is c.args.graph.now c.args.args.now (map (λ x. x.now)
          c.args.candidates.now) _ e;
    }
