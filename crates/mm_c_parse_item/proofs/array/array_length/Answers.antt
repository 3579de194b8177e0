use Rattle.std.proofs.Common.{◌∷◌, [], refl}
use Rattle.mm_c_parse.proofs.Steps.{yes_, bad, ok, no_, passed_, broken_, fg, ff, fs, mr, mf, mb, mw, mw_not}
use Rattle.mm_c_parse.proofs.Seen.{rl}
use Rattle.mm_c_parse_item.proofs.array.array_length.Goals as goal

pub returns-in_err-marks : goal.returns-in_err-marks
returns-in_err-marks c = bad c.from_residual.ensures.1 (λ e. mb (24 ∷ []) _ refl (broken_ c.in_err-marks.ensures))

pub returns-in_err-length : goal.returns-in_err-length
returns-in_err-length c = bad c.from_residual-in_err-length.ensures.1 (λ e. mf (24 ∷ []) refl (passed_ c.in_ok-marks.ensures) (fg (ff refl (no_ c.in_err-length.ensures e))))

pub returns-in_err-marks-2 : goal.returns-in_err-marks-2
returns-in_err-marks-2 c = bad c.from_residual-in_err-marks-2.ensures.1 (λ e. mf (24 ∷ []) refl (passed_ c.in_ok-marks.ensures) (fg (fs refl (ok c.in_ok-length.ensures) (mw_not (broken_ c.in_err-marks-2.ensures)))))

pub returns : goal.returns
returns c = yes_ (mr (24 ∷ []) refl (passed_ c.in_ok-marks.ensures) (rl refl (ok c.in_ok-length.ensures) (mw (passed_ c.in_ok-marks-2.ensures)).1))
