use Rattle.std.proofs.Common.{◌∷◌, [], refl}
use Rattle.mm_c.specs.Tokens.{names, numbers}
use Rattle.mm_c_parse.proofs.Steps.{yes_, bad, ok, no_, passed_, broken_, took, rg, fg, mr, mf, wr, wf, tr, kr, kf, nr, nf}
use Rattle.mm_c_parse.proofs.operand.atom.Goals as goal

pub returns-in-Some : goal.returns-in-Some
returns-in-Some c = yes_ (tr names refl refl c.in-Some.ensures.0 c.in-Some.ensures.1 (rg (rg (took names c.in-Some.ensures.0 c.in-Some.ensures.1) c.in_ok-text_of.ensures) refl))

pub returns-in-Some-eat_number : goal.returns-in-Some-eat_number
returns-in-Some-eat_number c = yes_ (nr names refl refl c.in_default.ensures.0 c.in_default.ensures.1 (tr numbers refl refl c.in-Some-eat_number.ensures.0 c.in-Some-eat_number.ensures.1 (rg (rg (took numbers c.in-Some-eat_number.ensures.0 c.in-Some-eat_number.ensures.1) c.value_of.ensures) refl)))

pub returns-in_err-value : goal.returns-in_err-value
returns-in_err-value c = bad c.from_residual-in_err-value.ensures.1 (λ e. nf names refl refl refl c.in_default.ensures.0 c.in_default.ensures.1 (nf numbers refl refl refl c.in_default-eat_number.ensures.0 c.in_default-eat_number.ensures.1 (kf refl refl (c.skip.ensures.passed c.if-skip.true) (no_ c.in_err-value.ensures e) (fg (mf (31 ∷ []) refl (c.skip.ensures.passed c.if-skip.true) (no_ c.in_err-value.ensures e))))))

pub returns-then-skip : goal.returns-then-skip
returns-then-skip c = yes_ (nr names refl refl c.in_default.ensures.0 c.in_default.ensures.1 (nr numbers refl refl c.in_default-eat_number.ensures.0 c.in_default-eat_number.ensures.1 (kr refl refl (c.skip.ensures.passed c.if-skip.true) (rg (mr (31 ∷ []) refl (c.skip.ensures.passed c.if-skip.true) (ok c.in_ok-value.ensures)) refl))))

pub returns-in_err-marks : goal.returns-in_err-marks
returns-in_err-marks c = bad c.from_residual-in_err-marks.ensures.1 (λ e. nf names refl refl refl c.in_default.ensures.0 c.in_default.ensures.1 (nf numbers refl refl refl c.in_default-eat_number.ensures.0 c.in_default-eat_number.ensures.1 (nf (31 ∷ []) refl refl refl (c.skip.ensures.none c.if-skip.false).0 (c.skip.ensures.none c.if-skip.false).1 (fg (wf (20 ∷ 31 ∷ 13 ∷ 31 ∷ 12 ∷ []) 21 refl (broken_ c.in_err-marks.ensures))))))

pub returns : goal.returns
returns c = yes_ (nr names refl refl c.in_default.ensures.0 c.in_default.ensures.1 (nr numbers refl refl c.in_default-eat_number.ensures.0 c.in_default-eat_number.ensures.1 (nr (31 ∷ []) refl refl (c.skip.ensures.none c.if-skip.false).0 (c.skip.ensures.none c.if-skip.false).1 (rg (wr (20 ∷ 31 ∷ 13 ∷ 31 ∷ 12 ∷ []) 21 refl (passed_ c.in_ok-marks.ensures)).1 refl))))
