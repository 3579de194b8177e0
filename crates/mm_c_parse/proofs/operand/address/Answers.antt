use Rattle.std.proofs.Common.{◌∷◌, [], refl}
use Rattle.mm_c_parse.proofs.Steps.{yes_, bad, ok, no_, passed_, broken_, rg, fg, rs, ff, fs, mr, mf, mb, mw, mw_not}
use Rattle.mm_c_parse.proofs.operand.address.Goals as goal

pub returns-in_err-marks : goal.returns-in_err-marks
returns-in_err-marks c = bad c.from_residual.ensures.1 (λ e. fg (mb (29 ∷ 21 ∷ 20 ∷ []) _ refl (broken_ c.in_err-marks.ensures)))

pub returns-in_err-pointer : goal.returns-in_err-pointer
returns-in_err-pointer c = bad c.from_residual-in_err-pointer.ensures.1 (λ e. fg (mf (29 ∷ 21 ∷ 20 ∷ []) refl (passed_ c.in_ok-marks.ensures) (ff refl (no_ c.in_err-pointer.ensures e))))

pub returns-in_err-marks-2 : goal.returns-in_err-marks-2
returns-in_err-marks-2 c = bad c.from_residual-in_err-marks-2.ensures.1 (λ e. fg (mf (29 ∷ 21 ∷ 20 ∷ []) refl (passed_ c.in_ok-marks.ensures) (fs refl (ok c.in_ok-pointer.ensures) (mb (30 ∷ []) _ refl (broken_ c.in_err-marks-2.ensures)))))

pub returns-in_err-offset : goal.returns-in_err-offset
returns-in_err-offset c = bad c.from_residual-in_err-offset.ensures.1 (λ e. fg (mf (29 ∷ 21 ∷ 20 ∷ []) refl (passed_ c.in_ok-marks.ensures) (fs refl (ok c.in_ok-pointer.ensures) (mf (30 ∷ []) refl (passed_ c.in_ok-marks-2.ensures) (fg (ff refl (no_ c.in_err-offset.ensures e)))))))

pub returns-in_err-marks-3 : goal.returns-in_err-marks-3
returns-in_err-marks-3 c = bad c.from_residual-in_err-marks-3.ensures.1 (λ e. fg (mf (29 ∷ 21 ∷ 20 ∷ []) refl (passed_ c.in_ok-marks.ensures) (fs refl (ok c.in_ok-pointer.ensures) (mf (30 ∷ []) refl (passed_ c.in_ok-marks-2.ensures) (fg (fs refl (ok c.in_ok-offset.ensures) (mw_not (broken_ c.in_err-marks-3.ensures))))))))

pub returns : goal.returns
returns c = yes_ (rg (mr (29 ∷ 21 ∷ 20 ∷ []) refl (passed_ c.in_ok-marks.ensures) (rs refl (ok c.in_ok-pointer.ensures) (mr (30 ∷ []) refl (passed_ c.in_ok-marks-2.ensures) (rg (rs refl (ok c.in_ok-offset.ensures) (mw (passed_ c.in_ok-marks-3.ensures)).1) refl)))) refl)
