use Rattle.std.proofs.Common.{◌∷◌, [], refl}
use Rattle.mm_c_parse.proofs.Steps.{yes_, bad, ok, no_, rg, fg, mr, mf, kr, kf, nr, rz}
use Rattle.mm_c_parse.proofs.right.index_end.Goals as goal

pub returns-in_err-list : goal.returns-in_err-list
returns-in_err-list c = bad c.from_residual.ensures.1 (λ e. fg (kf refl refl (c.skip.ensures.passed c.if-skip.true) (no_ c.in_err-list.ensures e) (fg (mf (20 ∷ []) refl (c.skip.ensures.passed c.if-skip.true) (no_ c.in_err-list.ensures e)))))

pub returns-then-skip : goal.returns-then-skip
returns-then-skip c = yes_ (rg (kr refl refl (c.skip.ensures.passed c.if-skip.true) (rg (mr (20 ∷ []) refl (c.skip.ensures.passed c.if-skip.true) (ok c.in_ok-list.ensures)) refl)) refl)

pub returns : goal.returns
returns c = yes_ (rg (nr (20 ∷ []) refl refl (c.skip.ensures.none c.if-skip.false).0 (c.skip.ensures.none c.if-skip.false).1 (rg rz refl)) refl)
