use Rattle.std.proofs.Common.{take, drop, suc, slice_index_or, refl, ap, sym, ◌∙◌, ◌++◌, drop-cons, length-take-le, arith}
use Rattle.std.proofs.lemmas.List.{take-append-drop}
use Rattle.mm_parse_expr.proofs.place_at.Goals as goal

pub returns : goal.returns
returns c =
    let tokens = c.args.tokens.now in
    let at = c.args.at in
    let t = c.index-tokens-at.result in (
      take at tokens,
      slice_index_or tokens at t,
      drop (suc at) tokens,
      sym (take-append-drop at tokens) ∙ ap (λ w. take at tokens ++ w) (drop-cons tokens at t c.requires),
      length-take-le at tokens (omega (arith, c.requires)),
      refl,
    )
