use Rattle.std.proofs.Common.{◌∷◌, [], refl}
use Rattle.mm_c_parse.proofs.Steps.{yes_, bad, tl, ok, no_, passed_, broken_, rg, fg, rs, ff, fs, mr, mf, wr, wf, kr, kf, nr, nf, ug, uf}
use Rattle.mm_c_parse.proofs.right.after_open.Goals as goal

pub returns-in_err-signed : goal.returns-in_err-signed
returns-in_err-signed c = bad c.from_residual.ensures.1 (λ e. kf refl refl (c.skip.ensures.passed c.if-skip.true) (no_ c.in_err-signed.ensures e) (fg (mf (45 ∷ []) refl (c.skip.ensures.passed c.if-skip.true) (no_ c.in_err-signed.ensures e))))

pub returns-then-skip : goal.returns-then-skip
returns-then-skip c = yes_ (kr refl refl (c.skip.ensures.passed c.if-skip.true) (rg (mr (45 ∷ []) refl (c.skip.ensures.passed c.if-skip.true) (ok c.in_ok-signed.ensures)) refl))

pub returns-in_err-unsigned : goal.returns-in_err-unsigned
returns-in_err-unsigned c = bad c.from_residual-in_err-unsigned.ensures.1 (λ e. nf (45 ∷ []) refl refl refl (c.skip.ensures.none c.if-skip.false).0 (c.skip.ensures.none c.if-skip.false).1 (kf refl refl (c.skip-2.ensures.passed c.if-skip-2.true) (no_ c.in_err-unsigned.ensures e) (fg (mf (46 ∷ []) refl (c.skip-2.ensures.passed c.if-skip-2.true) (no_ c.in_err-unsigned.ensures e)))))

pub returns-then-skip-2 : goal.returns-then-skip-2
returns-then-skip-2 c = yes_ (nr (45 ∷ []) refl refl (c.skip.ensures.none c.if-skip.false).0 (c.skip.ensures.none c.if-skip.false).1 (kr refl refl (c.skip-2.ensures.passed c.if-skip-2.true) (rg (mr (46 ∷ []) refl (c.skip-2.ensures.passed c.if-skip-2.true) (ok c.in_ok-unsigned.ensures)) refl)))

pub returns-in_err-marks : goal.returns-in_err-marks
returns-in_err-marks c = bad c.from_residual-in_err-marks.ensures.1 (λ e. nf (45 ∷ []) refl refl refl (c.skip.ensures.none c.if-skip.false).0 (c.skip.ensures.none c.if-skip.false).1 (nf (46 ∷ []) refl refl refl (c.skip-2.ensures.none c.if-skip-2.false).0 (c.skip-2.ensures.none c.if-skip-2.false).1 (fg (fg (ff refl (wf (31 ∷ 13 ∷ 31 ∷ 12 ∷ []) 21 refl (broken_ c.in_err-marks.ensures)))))))

pub returns : goal.returns
returns c = tl c.operated.ensures (λ v a. let u = ug a in nr (45 ∷ []) refl refl (c.skip.ensures.none c.if-skip.false).0 (c.skip.ensures.none c.if-skip.false).1 (nr (46 ∷ []) refl refl (c.skip-2.ensures.none c.if-skip-2.false).0 (c.skip-2.ensures.none c.if-skip-2.false).1 (rg (rg (rs refl (wr (31 ∷ 13 ∷ 31 ∷ 12 ∷ []) 21 refl (passed_ c.in_ok-marks.ensures)).1 u.2) refl) u.1))) (λ a. nf (45 ∷ []) refl refl refl (c.skip.ensures.none c.if-skip.false).0 (c.skip.ensures.none c.if-skip.false).1 (nf (46 ∷ []) refl refl refl (c.skip-2.ensures.none c.if-skip-2.false).0 (c.skip-2.ensures.none c.if-skip-2.false).1 (fg (fg (fs refl (wr (31 ∷ 13 ∷ 31 ∷ 12 ∷ []) 21 refl (passed_ c.in_ok-marks.ensures)).1 (uf a))))))
