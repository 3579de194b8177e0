use Rattle.std.proofs.Common.{◌∷◌, [], refl}
use Rattle.mm_c_parse.proofs.Steps.{yes_, tl, rg, mw, kr, nr, nf}
use Rattle.mm_c_parse_item.proofs.kind.params.Goals as goal

pub returns-then-skip : goal.returns-then-skip
returns-then-skip c = let k = c.skip.ensures.passed c.if-skip.true in yes_ (kr refl refl k (rg (mw k).1 c.new.ensures))

pub returns : goal.returns
returns c = let n = c.skip.ensures.none c.if-skip.false in tl c.named_list.ensures (λ v a. nr (44 ∷ []) refl refl n.0 n.1 a) (λ a. nf (44 ∷ []) refl refl refl n.0 n.1 a)
