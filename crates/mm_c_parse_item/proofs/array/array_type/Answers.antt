use Rattle.std.proofs.Common.{◌∷◌, [], refl}
use Rattle.mm_c_parse.proofs.Steps.{yes_, bad, ok, no_, rg, fg, mw, kr, nr, nf}
use Rattle.mm_c_parse_item.proofs.array.array_type.Goals as goal

pub returns-then-skip : goal.returns-then-skip
returns-then-skip c = let k = c.skip.ensures.passed c.if-skip.true in yes_ (kr refl refl k (rg (mw k).1 refl))

pub returns-in_err-name : goal.returns-in_err-name
returns-in_err-name c = let n = c.skip.ensures.none c.if-skip.false in bad c.from_residual.ensures.1 (λ e. nf (47 ∷ []) refl refl refl n.0 n.1 (fg (no_ c.in_err-name.ensures e)))

pub returns : goal.returns
returns c = let n = c.skip.ensures.none c.if-skip.false in yes_ (nr (47 ∷ []) refl refl n.0 n.1 (rg (ok c.in_ok-name.ensures) refl))
