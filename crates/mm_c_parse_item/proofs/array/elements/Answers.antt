use Rattle.std.proofs.Common.{◌∷◌, [], refl}
use Rattle.mm_c_parse.proofs.Steps.{yes_, bad, ok, no_, passed_, broken_, fg, ff, fs, mr, mf, mb}
use Rattle.mm_c_parse.proofs.Seen.{rl, two_marks, two_broken}
use Rattle.mm_c_parse_item.proofs.array.elements.Goals as goal

pub returns-in_err-marks : goal.returns-in_err-marks
returns-in_err-marks c = bad c.from_residual.ensures.1 (λ e. mb (28 ∷ 22 ∷ []) _ refl (broken_ c.in_err-marks.ensures))

pub returns-in_err-list : goal.returns-in_err-list
returns-in_err-list c = bad c.from_residual-in_err-list.ensures.1 (λ e. mf (28 ∷ 22 ∷ []) refl (passed_ c.in_ok-marks.ensures) (fg (ff refl (no_ c.in_err-list.ensures e))))

pub returns-in_err-marks-2 : goal.returns-in_err-marks-2
returns-in_err-marks-2 c = bad c.from_residual-in_err-marks-2.ensures.1 (λ e. mf (28 ∷ 22 ∷ []) refl (passed_ c.in_ok-marks.ensures) (fg (fs refl (ok c.in_ok-list.ensures) (two_broken refl (broken_ c.in_err-marks-2.ensures)))))

pub returns : goal.returns
returns c = yes_ (mr (28 ∷ 22 ∷ []) refl (passed_ c.in_ok-marks.ensures) (rl refl (ok c.in_ok-list.ensures) (two_marks refl (passed_ c.in_ok-marks-2.ensures)).1))
