use Rattle.std.proofs.Common.{refl}
use Rattle.mm_c_parse.proofs.Steps.{yes_, bad, ok, no_, passed_, broken_, rg, fg, rs, ff, fs, mw, mw_not}
use Rattle.mm_c_parse.proofs.right.closed_tag.Goals as goal

pub returns-in_err-place : goal.returns-in_err-place
returns-in_err-place c = bad c.from_residual.ensures.1 (λ e. fg (ff refl (no_ c.in_err-place.ensures e)))

pub returns-in_err-marks : goal.returns-in_err-marks
returns-in_err-marks c = bad c.from_residual-in_err-marks.ensures.1 (λ e. fg (fs refl (ok c.in_ok-place.ensures) (mw_not (broken_ c.in_err-marks.ensures))))

pub returns : goal.returns
returns c = yes_ (rg (rs refl (ok c.in_ok-place.ensures) (mw (passed_ c.in_ok-marks.ensures)).1) refl)
