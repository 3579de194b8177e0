use Rattle.std.proofs.Common.{◌∷◌, [], refl, ap, ◌∙◌}
use Rattle.mm_c.specs.View.{stmt_view}
use Rattle.mm_c.proofs.Views.{view-Store}
use Rattle.mm_c_parse.proofs.Steps.{yes_, ok, no_, passed_, broken_, rg, fg, rs, ff, fs, mr, mf, mb, mw, mw_not}
use Rattle.mm_c_parse.proofs.Seen.{bad_seen, rl}
use Rattle.mm_c_parse_stmt.proofs.simple.store_end.Goals as goal

pub returns-in_err-marks : goal.returns-in_err-marks
returns-in_err-marks c = bad_seen stmt_view _ c.from_residual.ensures.1 (λ e. fg (mb (20 ∷ []) _ refl (broken_ c.in_err-marks.ensures)))

pub returns-in_err-cell : goal.returns-in_err-cell
returns-in_err-cell c = bad_seen stmt_view _ c.from_residual-in_err-cell.ensures.1 (λ e. fg (mf (20 ∷ []) refl (passed_ c.in_ok-marks.ensures) (ff refl (no_ c.in_err-cell.ensures e))))

pub returns-in_err-place : goal.returns-in_err-place
returns-in_err-place c = bad_seen stmt_view _ c.from_residual-in_err-place.ensures.1 (λ e. fg (mf (20 ∷ []) refl (passed_ c.in_ok-marks.ensures) (fs refl (ok c.in_ok-cell.ensures) (ff refl (no_ c.in_err-place.ensures e)))))

pub returns-in_err-marks-2 : goal.returns-in_err-marks-2
returns-in_err-marks-2 c = bad_seen stmt_view _ c.from_residual-in_err-marks-2.ensures.1 (λ e. fg (mf (20 ∷ []) refl (passed_ c.in_ok-marks.ensures) (fs refl (ok c.in_ok-cell.ensures) (fs refl (ok c.in_ok-place.ensures) (mb (28 ∷ []) _ refl (broken_ c.in_err-marks-2.ensures))))))

pub returns-in_err-value : goal.returns-in_err-value
returns-in_err-value c = bad_seen stmt_view _ c.from_residual-in_err-value.ensures.1 (λ e. fg (mf (20 ∷ []) refl (passed_ c.in_ok-marks.ensures) (fs refl (ok c.in_ok-cell.ensures) (fs refl (ok c.in_ok-place.ensures) (mf (28 ∷ []) refl (passed_ c.in_ok-marks-2.ensures) (fg (ff refl (no_ c.in_err-value.ensures e))))))))

pub returns-in_err-marks-3 : goal.returns-in_err-marks-3
returns-in_err-marks-3 c = bad_seen stmt_view _ c.from_residual-in_err-marks-3.ensures.1 (λ e. fg (mf (20 ∷ []) refl (passed_ c.in_ok-marks.ensures) (fs refl (ok c.in_ok-cell.ensures) (fs refl (ok c.in_ok-place.ensures) (mf (28 ∷ []) refl (passed_ c.in_ok-marks-2.ensures) (fg (fs refl (ok c.in_ok-value.ensures) (mw_not (broken_ c.in_err-marks-3.ensures)))))))))

pub returns : goal.returns
returns c = yes_ (rg (mr (20 ∷ []) refl (passed_ c.in_ok-marks.ensures) (rs refl (ok c.in_ok-cell.ensures) (rs refl (ok c.in_ok-place.ensures) (mr (28 ∷ []) refl (passed_ c.in_ok-marks-2.ensures) (rl refl (ok c.in_ok-value.ensures) (mw (passed_ c.in_ok-marks-3.ensures)).1))))) (ap stmt_view c.in_ok-new.ensures ∙ view-Store _ _ _))
