use Rattle.std.proofs.Common.{◌∷◌, [], refl}
use Rattle.mm_c_parse.proofs.Steps.{yes_, ok, no_, passed_, broken_, fg, rs, ff, fs, mr, mf, mb, mw, mw_not}
use Rattle.mm_c_parse.proofs.Seen.{bad_seen, rl}
use Rattle.mm_c_parse_item.specs.Seen.{head_of}
use Rattle.mm_c_parse_item.proofs.kind.head.Goals as goal

pub returns-in_err-name : goal.returns-in_err-name
returns-in_err-name c = bad_seen head_of _ c.from_residual.ensures.1 (λ e. ff refl (no_ c.in_err-name.ensures e))

pub returns-in_err-marks : goal.returns-in_err-marks
returns-in_err-marks c = bad_seen head_of _ c.from_residual-in_err-marks.ensures.1 (λ e. fs refl (ok c.in_ok-name.ensures) (mb (20 ∷ []) _ refl (broken_ c.in_err-marks.ensures)))

pub returns-in_err-params : goal.returns-in_err-params
returns-in_err-params c = bad_seen head_of _ c.from_residual-in_err-params.ensures.1 (λ e. fs refl (ok c.in_ok-name.ensures) (mf (20 ∷ []) refl (passed_ c.in_ok-marks.ensures) (fg (ff refl (no_ c.in_err-params.ensures e)))))

pub returns-in_err-marks-2 : goal.returns-in_err-marks-2
returns-in_err-marks-2 c = bad_seen head_of _ c.from_residual-in_err-marks-2.ensures.1 (λ e. fs refl (ok c.in_ok-name.ensures) (mf (20 ∷ []) refl (passed_ c.in_ok-marks.ensures) (fg (fs refl (ok c.in_ok-params.ensures) (mw_not (broken_ c.in_err-marks-2.ensures))))))

pub returns : goal.returns
returns c = yes_ (rs refl (ok c.in_ok-name.ensures) (mr (20 ∷ []) refl (passed_ c.in_ok-marks.ensures) (rl refl (ok c.in_ok-params.ensures) (mw (passed_ c.in_ok-marks-2.ensures)).1)))
