use Rattle.std.proofs.Common.{◌∷◌, [], refl}
use Rattle.mm_c_parse.proofs.Steps.{bad, tl, passed_, broken_, rg, fg, mr, mf, kr, kf, nr, nf, ug, uf}
use Rattle.mm_c_parse_stmt.proofs.Locals.{pointer_then, pointer_then_not, no_pointer}
use Rattle.mm_c_parse_stmt.proofs.local.local.Goals as goal

pub returns-then-skip : goal.returns-then-skip
returns-then-skip c = tl c.local_end.ensures (λ v a. let u = ug a in (kr refl refl (c.skip.ensures.passed c.if-skip.true) (rg (mr (45 ∷ []) refl (c.skip.ensures.passed c.if-skip.true) u.2) u.1))) (λ a. (kf refl refl (c.skip.ensures.passed c.if-skip.true) (uf a) (fg (mf (45 ∷ []) refl (c.skip.ensures.passed c.if-skip.true) (uf a)))))

pub returns-then-skip-2 : goal.returns-then-skip-2
returns-then-skip-2 c = tl c.local_end-then-skip-2.ensures (λ v a. let u = ug a in (nr (45 ∷ []) refl refl (c.skip.ensures.none c.if-skip.false).0 (c.skip.ensures.none c.if-skip.false).1 (kr refl refl (c.skip-2.ensures.passed c.if-skip-2.true) (rg (mr (46 ∷ []) refl (c.skip-2.ensures.passed c.if-skip-2.true) u.2) u.1)))) (λ a. (nf (45 ∷ []) refl refl refl (c.skip.ensures.none c.if-skip.false).0 (c.skip.ensures.none c.if-skip.false).1 (kf refl refl (c.skip-2.ensures.passed c.if-skip-2.true) (uf a) (fg (mf (46 ∷ []) refl (c.skip-2.ensures.passed c.if-skip-2.true) (uf a))))))

pub returns-then-skip-3 : goal.returns-then-skip-3
returns-then-skip-3 c = tl c.local_end-then-skip-3.ensures (λ v a. let u = ug a in (nr (45 ∷ []) refl refl (c.skip.ensures.none c.if-skip.false).0 (c.skip.ensures.none c.if-skip.false).1 (nr (46 ∷ []) refl refl (c.skip-2.ensures.none c.if-skip-2.false).0 (c.skip-2.ensures.none c.if-skip-2.false).1 (kr refl refl (c.skip-3.ensures.passed c.if-skip-3.true) (rg (mr (47 ∷ []) refl (c.skip-3.ensures.passed c.if-skip-3.true) u.2) u.1))))) (λ a. (nf (45 ∷ []) refl refl refl (c.skip.ensures.none c.if-skip.false).0 (c.skip.ensures.none c.if-skip.false).1 (nf (46 ∷ []) refl refl refl (c.skip-2.ensures.none c.if-skip-2.false).0 (c.skip-2.ensures.none c.if-skip-2.false).1 (kf refl refl (c.skip-3.ensures.passed c.if-skip-3.true) (uf a) (fg (mf (47 ∷ []) refl (c.skip-3.ensures.passed c.if-skip-3.true) (uf a)))))))

pub returns-in_err-marks : goal.returns-in_err-marks
returns-in_err-marks c = bad c.from_residual.ensures.1 (λ e. (nf (45 ∷ []) refl refl refl (c.skip.ensures.none c.if-skip.false).0 (c.skip.ensures.none c.if-skip.false).1 (nf (46 ∷ []) refl refl refl (c.skip-2.ensures.none c.if-skip-2.false).0 (c.skip-2.ensures.none c.if-skip-2.false).1 (nf (47 ∷ []) refl refl refl (c.skip-3.ensures.none c.if-skip-3.false).0 (c.skip-3.ensures.none c.if-skip-3.false).1 (no_pointer (broken_ c.in_err-marks.ensures))))))

pub returns : goal.returns
returns c = tl c.local_end-2.ensures (λ v a. (nr (45 ∷ []) refl refl (c.skip.ensures.none c.if-skip.false).0 (c.skip.ensures.none c.if-skip.false).1 (nr (46 ∷ []) refl refl (c.skip-2.ensures.none c.if-skip-2.false).0 (c.skip-2.ensures.none c.if-skip-2.false).1 (nr (47 ∷ []) refl refl (c.skip-3.ensures.none c.if-skip-3.false).0 (c.skip-3.ensures.none c.if-skip-3.false).1 (pointer_then (passed_ c.in_ok-marks.ensures) a))))) (λ a. (nf (45 ∷ []) refl refl refl (c.skip.ensures.none c.if-skip.false).0 (c.skip.ensures.none c.if-skip.false).1 (nf (46 ∷ []) refl refl refl (c.skip-2.ensures.none c.if-skip-2.false).0 (c.skip-2.ensures.none c.if-skip-2.false).1 (nf (47 ∷ []) refl refl refl (c.skip-3.ensures.none c.if-skip-3.false).0 (c.skip-3.ensures.none c.if-skip-3.false).1 (pointer_then_not (passed_ c.in_ok-marks.ensures) a)))))
