use Rattle.std.proofs.Common.{◌∷◌, [], refl}
use Rattle.mm_c.specs.Tokens.{names, numbers}
use Rattle.mm_c.specs.Grammar.{right}
use Rattle.mm_c_parse.proofs.Steps.{yes_, bad, tl, ok, no_, passed_, broken_, took, rg, fg, rs, ff, fs, rn, fn_, mr, mf, mb, tr, tf, kr, kf, nr, nf, ug, uf}
use Rattle.mm_c_parse.proofs.right.right.Goals as goal

pub returns-in-Some : goal.returns-in-Some
returns-in-Some c = tl c.after_name.ensures (λ v a. let u = ug a in rn {x = right} (tr names refl refl c.in-Some.ensures.0 c.in-Some.ensures.1 (rg (rs refl (rg (took names c.in-Some.ensures.0 c.in-Some.ensures.1) c.in_ok-first.ensures) u.2) u.1))) (λ a. fn_ {x = right} (tf names refl refl c.in-Some.ensures.0 c.in-Some.ensures.1 (uf a) (fg (fs refl (rg (took names c.in-Some.ensures.0 c.in-Some.ensures.1) c.in_ok-first.ensures) (uf a)))))

pub returns-in-Some-eat_number : goal.returns-in-Some-eat_number
returns-in-Some-eat_number c = tl c.operated.ensures (λ v a. let u = ug a in rn {x = right} (nr names refl refl c.in_default.ensures.0 c.in_default.ensures.1 (tr numbers refl refl c.in-Some-eat_number.ensures.0 c.in-Some-eat_number.ensures.1 (rg (rs refl (rg (took numbers c.in-Some-eat_number.ensures.0 c.in-Some-eat_number.ensures.1) c.value_of.ensures) u.2) u.1)))) (λ a. fn_ {x = right} (nf names refl refl refl c.in_default.ensures.0 c.in_default.ensures.1 (tf numbers refl refl c.in-Some-eat_number.ensures.0 c.in-Some-eat_number.ensures.1 (uf a) (fg (fs refl (rg (took numbers c.in-Some-eat_number.ensures.0 c.in-Some-eat_number.ensures.1) c.value_of.ensures) (uf a))))))

pub returns-then-skip : goal.returns-then-skip
returns-then-skip c = tl c.negated.ensures (λ v a. let u = ug a in rn {x = right} (nr names refl refl c.in_default.ensures.0 c.in_default.ensures.1 (nr numbers refl refl c.in_default-eat_number.ensures.0 c.in_default-eat_number.ensures.1 (kr refl refl (c.skip.ensures.passed c.if-skip.true) (rg (mr (31 ∷ []) refl (c.skip.ensures.passed c.if-skip.true) u.2) u.1))))) (λ a. fn_ {x = right} (nf names refl refl refl c.in_default.ensures.0 c.in_default.ensures.1 (nf numbers refl refl refl c.in_default-eat_number.ensures.0 c.in_default-eat_number.ensures.1 (kf refl refl (c.skip.ensures.passed c.if-skip.true) (uf a) (fg (mf (31 ∷ []) refl (c.skip.ensures.passed c.if-skip.true) (uf a)))))))

pub returns-then-skip-2 : goal.returns-then-skip-2
returns-then-skip-2 c = tl c.after_open.ensures (λ v a. rn {x = right} (nr names refl refl c.in_default.ensures.0 c.in_default.ensures.1 (nr numbers refl refl c.in_default-eat_number.ensures.0 c.in_default-eat_number.ensures.1 (nr (31 ∷ []) refl refl (c.skip.ensures.none c.if-skip.false).0 (c.skip.ensures.none c.if-skip.false).1 (kr refl refl (c.skip-2.ensures.passed c.if-skip-2.true) (mr (20 ∷ []) refl (c.skip-2.ensures.passed c.if-skip-2.true) a)))))) (λ a. fn_ {x = right} (nf names refl refl refl c.in_default.ensures.0 c.in_default.ensures.1 (nf numbers refl refl refl c.in_default-eat_number.ensures.0 c.in_default-eat_number.ensures.1 (nf (31 ∷ []) refl refl refl (c.skip.ensures.none c.if-skip.false).0 (c.skip.ensures.none c.if-skip.false).1 (kf refl refl (c.skip-2.ensures.passed c.if-skip-2.true) a (mf (20 ∷ []) refl (c.skip-2.ensures.passed c.if-skip-2.true) a))))))

pub returns-in_err-marks : goal.returns-in_err-marks
returns-in_err-marks c = bad c.from_residual-in_err-marks.ensures.1 (λ e. fn_ {x = right} (nf names refl refl refl c.in_default.ensures.0 c.in_default.ensures.1 (nf numbers refl refl refl c.in_default-eat_number.ensures.0 c.in_default-eat_number.ensures.1 (nf (31 ∷ []) refl refl refl (c.skip.ensures.none c.if-skip.false).0 (c.skip.ensures.none c.if-skip.false).1 (nf (20 ∷ []) refl refl refl (c.skip-2.ensures.none c.if-skip-2.false).0 (c.skip-2.ensures.none c.if-skip-2.false).1 (fg (mb (29 ∷ 20 ∷ []) _ refl (broken_ c.in_err-marks.ensures))))))))

pub returns-in_err-cell : goal.returns-in_err-cell
returns-in_err-cell c = bad c.from_residual-in_err-cell.ensures.1 (λ e. fn_ {x = right} (nf names refl refl refl c.in_default.ensures.0 c.in_default.ensures.1 (nf numbers refl refl refl c.in_default-eat_number.ensures.0 c.in_default-eat_number.ensures.1 (nf (31 ∷ []) refl refl refl (c.skip.ensures.none c.if-skip.false).0 (c.skip.ensures.none c.if-skip.false).1 (nf (20 ∷ []) refl refl refl (c.skip-2.ensures.none c.if-skip-2.false).0 (c.skip-2.ensures.none c.if-skip-2.false).1 (fg (mf (29 ∷ 20 ∷ []) refl (passed_ c.in_ok-marks.ensures) (ff refl (no_ c.in_err-cell.ensures e)))))))))

pub returns-in_err-place : goal.returns-in_err-place
returns-in_err-place c = bad c.from_residual-in_err-place.ensures.1 (λ e. fn_ {x = right} (nf names refl refl refl c.in_default.ensures.0 c.in_default.ensures.1 (nf numbers refl refl refl c.in_default-eat_number.ensures.0 c.in_default-eat_number.ensures.1 (nf (31 ∷ []) refl refl refl (c.skip.ensures.none c.if-skip.false).0 (c.skip.ensures.none c.if-skip.false).1 (nf (20 ∷ []) refl refl refl (c.skip-2.ensures.none c.if-skip-2.false).0 (c.skip-2.ensures.none c.if-skip-2.false).1 (fg (mf (29 ∷ 20 ∷ []) refl (passed_ c.in_ok-marks.ensures) (fs refl (ok c.in_ok-cell.ensures) (no_ c.in_err-place.ensures e)))))))))

pub returns : goal.returns
returns c = yes_ (rn {x = right} (nr names refl refl c.in_default.ensures.0 c.in_default.ensures.1 (nr numbers refl refl c.in_default-eat_number.ensures.0 c.in_default-eat_number.ensures.1 (nr (31 ∷ []) refl refl (c.skip.ensures.none c.if-skip.false).0 (c.skip.ensures.none c.if-skip.false).1 (nr (20 ∷ []) refl refl (c.skip-2.ensures.none c.if-skip-2.false).0 (c.skip-2.ensures.none c.if-skip-2.false).1 (rg (mr (29 ∷ 20 ∷ []) refl (passed_ c.in_ok-marks.ensures) (rs refl (ok c.in_ok-cell.ensures) (ok c.in_ok-place.ensures))) refl))))))
