use Rattle.std.proofs.Common.{◌∷◌, [], refl}
use Rattle.mm_c_parse.proofs.Steps.{bad, tl, passed_, broken_, mr, mf, mb}
use Rattle.mm_c_parse.proofs.right.closed_name.Goals as goal

pub returns-in_err-marks : goal.returns-in_err-marks
returns-in_err-marks c = bad c.from_residual.ensures.1 (λ e. mb (21 ∷ []) _ refl (broken_ c.in_err-marks.ensures))

pub returns : goal.returns
returns c = tl c.ident.ensures (λ v a. mr (21 ∷ []) refl (passed_ c.in_ok-marks.ensures) a) (λ a. mf (21 ∷ []) refl (passed_ c.in_ok-marks.ensures) a)
