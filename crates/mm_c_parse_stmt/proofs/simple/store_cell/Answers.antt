use Rattle.std.proofs.Common.{◌∷◌, [], refl}
use Rattle.mm_c_parse.proofs.Steps.{yes_, bad, passed_, broken_, rg, fg, mw, mr, kr, nr, nf, rz}
use Rattle.mm_c_parse.proofs.Skips.{pointer_reads, pointer_fails}
use Rattle.mm_c_parse_stmt.proofs.simple.store_cell.Goals as goal

pub returns-then-skip : goal.returns-then-skip
returns-then-skip c = let k = c.skip.ensures.passed c.if-skip.true in yes_ (kr refl refl k (rg (mw k).1 refl))

pub returns-then-skip-3 : goal.returns-then-skip-3
returns-then-skip-3 c =
    let n = c.skip.ensures.none c.if-skip.false in
    let k = c.skip-2.ensures.passed c.if-skip-2.true in
    let s = c.skip-then-skip-2.ensures.passed c.if-skip-3.true in
    yes_ (nr (45 ∷ []) refl refl n.0 n.1 (kr refl refl k (rg (mr (46 ∷ []) refl k (kr refl refl s (rg (mw s).1 refl))) refl)))

pub returns-then-skip-2 : goal.returns-then-skip-2
returns-then-skip-2 c =
    let n = c.skip.ensures.none c.if-skip.false in
    let k = c.skip-2.ensures.passed c.if-skip-2.true in
    let s = c.skip-then-skip-2.ensures.none c.if-skip-3.false in
    yes_ (nr (45 ∷ []) refl refl n.0 n.1 (kr refl refl k (rg (mr (46 ∷ []) refl k (nr (49 ∷ []) refl refl s.0 s.1 (rg rz refl))) refl)))

pub returns-in_err-marks : goal.returns-in_err-marks
returns-in_err-marks c =
    let n = c.skip.ensures.none c.if-skip.false in
    let m = c.skip-2.ensures.none c.if-skip-2.false in
    bad c.from_residual.ensures.1 (λ e. nf (45 ∷ []) refl refl refl n.0 n.1 (nf (46 ∷ []) refl refl refl m.0 m.1 (fg (pointer_fails (broken_ c.in_err-marks.ensures)))))

pub returns : goal.returns
returns c =
    let n = c.skip.ensures.none c.if-skip.false in
    let m = c.skip-2.ensures.none c.if-skip-2.false in
    yes_ (nr (45 ∷ []) refl refl n.0 n.1 (nr (46 ∷ []) refl refl m.0 m.1 (rg (pointer_reads (passed_ c.in_ok-marks.ensures)).1 refl)))
