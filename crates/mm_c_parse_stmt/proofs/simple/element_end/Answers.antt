use Rattle.std.proofs.Common.{◌∷◌, [], refl}
use Rattle.mm_c_parse.proofs.Steps.{yes_, bad, ok, no_, passed_, broken_, rg, fg, rs, ff, fs, mr, mf, mb, mw, mw_not}
use Rattle.mm_c_parse.proofs.Seen.{rl}
use Rattle.mm_c_parse_stmt.proofs.simple.element_end.Goals as goal

pub returns-in_err-index : goal.returns-in_err-index
returns-in_err-index c = bad c.from_residual.ensures.1 (λ e. fg (ff refl (fg (ff refl (no_ c.in_err-index.ensures e)))))

pub returns-in_err-marks : goal.returns-in_err-marks
returns-in_err-marks c = bad c.from_residual-in_err-marks.ensures.1 (λ e. fg (ff refl (fg (fs refl (ok c.in_ok-index.ensures) (mw_not (broken_ c.in_err-marks.ensures))))))

pub returns-in_err-marks-2 : goal.returns-in_err-marks-2
returns-in_err-marks-2 c = bad c.from_residual-in_err-marks-2.ensures.1 (λ e. fg (fs refl (rl refl (ok c.in_ok-index.ensures) (mw (passed_ c.in_ok-marks.ensures)).1) (mb (20 ∷ []) _ refl (broken_ c.in_err-marks-2.ensures))))

pub returns-in_err-list : goal.returns-in_err-list
returns-in_err-list c = bad c.from_residual-in_err-list.ensures.1 (λ e. fg (fs refl (rl refl (ok c.in_ok-index.ensures) (mw (passed_ c.in_ok-marks.ensures)).1) (mf (20 ∷ []) refl (passed_ c.in_ok-marks-2.ensures) (no_ c.in_err-list.ensures e))))

pub returns : goal.returns
returns c = yes_ (rg (rs refl (rl refl (ok c.in_ok-index.ensures) (mw (passed_ c.in_ok-marks.ensures)).1) (mr (20 ∷ []) refl (passed_ c.in_ok-marks-2.ensures) (ok c.in_ok-list.ensures))) refl)
