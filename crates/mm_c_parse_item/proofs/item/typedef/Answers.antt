use Rattle.std.proofs.Common.{◌∷◌, [], refl}
use Rattle.mm_c.specs.View.{item_view}
use Rattle.mm_c_parse.proofs.Steps.{yes_, ok, no_, passed_, broken_, rg, fg, rs, ff, fs, mr, mf, mb, mw, mw_not}
use Rattle.mm_c_parse.proofs.Seen.{bad_seen, rl, two_marks, two_broken}
use Rattle.mm_c_parse_item.proofs.item.typedef.Goals as goal

pub returns-in_err-result : goal.returns-in_err-result
returns-in_err-result c = bad_seen item_view _ c.from_residual.ensures.1 (λ e. fg (ff refl (no_ c.in_err-result.ensures e)))

pub returns-in_err-marks : goal.returns-in_err-marks
returns-in_err-marks c = bad_seen item_view _ c.from_residual-in_err-marks.ensures.1 (λ e. fg (fs refl (ok c.in_ok-result.ensures) (mb (20 ∷ 29 ∷ []) _ refl (broken_ c.in_err-marks.ensures))))

pub returns-in_err-name : goal.returns-in_err-name
returns-in_err-name c = bad_seen item_view _ c.from_residual-in_err-name.ensures.1 (λ e. fg (fs refl (ok c.in_ok-result.ensures) (mf (20 ∷ 29 ∷ []) refl (passed_ c.in_ok-marks.ensures) (ff refl (fg (ff refl (no_ c.in_err-name.ensures e)))))))

pub returns-in_err-marks-2 : goal.returns-in_err-marks-2
returns-in_err-marks-2 c = bad_seen item_view _ c.from_residual-in_err-marks-2.ensures.1 (λ e. fg (fs refl (ok c.in_ok-result.ensures) (mf (20 ∷ 29 ∷ []) refl (passed_ c.in_ok-marks.ensures) (ff refl (fg (fs refl (ok c.in_ok-name.ensures) (mw_not (broken_ c.in_err-marks-2.ensures))))))))

pub returns-in_err-marks-3 : goal.returns-in_err-marks-3
returns-in_err-marks-3 c =
    bad_seen item_view _ c.from_residual-in_err-marks-3.ensures.1 (λ e. fg (fs refl (ok c.in_ok-result.ensures) (mf (20 ∷ 29 ∷ []) refl (passed_ c.in_ok-marks.ensures)
    (fs refl (rl refl (ok c.in_ok-name.ensures) (mw (passed_ c.in_ok-marks-2.ensures)).1) (mb (20 ∷ []) _ refl (broken_ c.in_err-marks-3.ensures))))))

pub returns-in_err-kinds : goal.returns-in_err-kinds
returns-in_err-kinds c =
    bad_seen item_view _ c.from_residual-in_err-kinds.ensures.1 (λ e. fg (fs refl (ok c.in_ok-result.ensures) (mf (20 ∷ 29 ∷ []) refl (passed_ c.in_ok-marks.ensures)
    (fs refl (rl refl (ok c.in_ok-name.ensures) (mw (passed_ c.in_ok-marks-2.ensures)).1) (mf (20 ∷ []) refl (passed_ c.in_ok-marks-3.ensures) (fg (ff refl (no_ c.in_err-kinds.ensures e))))))))

pub returns-in_err-marks-4 : goal.returns-in_err-marks-4
returns-in_err-marks-4 c =
    bad_seen item_view _ c.from_residual-in_err-marks-4.ensures.1 (λ e. fg (fs refl (ok c.in_ok-result.ensures) (mf (20 ∷ 29 ∷ []) refl (passed_ c.in_ok-marks.ensures)
    (fs refl (rl refl (ok c.in_ok-name.ensures) (mw (passed_ c.in_ok-marks-2.ensures)).1) (mf (20 ∷ []) refl (passed_ c.in_ok-marks-3.ensures) (fg (fs refl (ok c.in_ok-kinds.ensures) (two_broken refl (broken_ c.in_err-marks-4.ensures)))))))))

pub returns : goal.returns
returns c =
    yes_ (rg (rs refl (ok c.in_ok-result.ensures) (mr (20 ∷ 29 ∷ []) refl (passed_ c.in_ok-marks.ensures)
    (rs refl (rl refl (ok c.in_ok-name.ensures) (mw (passed_ c.in_ok-marks-2.ensures)).1) (mr (20 ∷ []) refl (passed_ c.in_ok-marks-3.ensures) (rl refl (ok c.in_ok-kinds.ensures) (two_marks refl (passed_ c.in_ok-marks-4.ensures)).1))))) refl)
