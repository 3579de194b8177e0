use Rattle.std.proofs.Common.{◌∷◌, [], refl}
use Rattle.mm_c_parse.proofs.Steps.{yes_, bad, passed_, broken_, rg, fg, mw, kr, nr, nf}
use Rattle.mm_c_parse.proofs.Skips.{pointer_reads, pointer_fails}
use Rattle.mm_c_parse.proofs.operand.load_cell.Goals as goal

pub returns-then-skip : goal.returns-then-skip
returns-then-skip c = yes_ (kr refl refl (c.skip.ensures.passed c.if-skip.true) (rg (mw (c.skip.ensures.passed c.if-skip.true)).1 refl))

pub returns-then-skip-2 : goal.returns-then-skip-2
returns-then-skip-2 c = yes_ (nr (45 ∷ []) refl refl (c.skip.ensures.none c.if-skip.false).0 (c.skip.ensures.none c.if-skip.false).1 (kr refl refl (c.skip-2.ensures.passed c.if-skip-2.true) (rg (mw (c.skip-2.ensures.passed c.if-skip-2.true)).1 refl)))

pub returns-in_err-marks : goal.returns-in_err-marks
returns-in_err-marks c = bad c.from_residual.ensures.1 (λ e. nf (45 ∷ []) refl refl refl (c.skip.ensures.none c.if-skip.false).0 (c.skip.ensures.none c.if-skip.false).1 (nf (46 ∷ []) refl refl refl (c.skip-2.ensures.none c.if-skip-2.false).0 (c.skip-2.ensures.none c.if-skip-2.false).1 (fg (pointer_fails (broken_ c.in_err-marks.ensures)))))

pub returns : goal.returns
returns c = yes_ (nr (45 ∷ []) refl refl (c.skip.ensures.none c.if-skip.false).0 (c.skip.ensures.none c.if-skip.false).1 (nr (46 ∷ []) refl refl (c.skip-2.ensures.none c.if-skip-2.false).0 (c.skip-2.ensures.none c.if-skip-2.false).1 (rg (pointer_reads (passed_ c.in_ok-marks.ensures)).1 refl)))
