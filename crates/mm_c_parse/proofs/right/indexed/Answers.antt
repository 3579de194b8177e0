use Rattle.std.proofs.Common.{refl}
use Rattle.mm_c.specs.Tokens.{names}
use Rattle.mm_c_parse.proofs.Steps.{yes_, bad, tl, ok, no_, passed_, broken_, took, rg, fg, rs, ff, fs, mw, mw_not, tr, tf, nr, nf, ug, uf}
use Rattle.mm_c_parse.proofs.right.indexed.Goals as goal

pub returns-in_err-marks : goal.returns-in_err-marks
returns-in_err-marks c = bad c.from_residual-in_err-marks.ensures.1 (λ e. fg (tf names refl refl c.in-Some.ensures.0 c.in-Some.ensures.1 (mw_not (broken_ c.in_err-marks.ensures)) (fg (ff refl (fg (fs refl (rg (took names c.in-Some.ensures.0 c.in-Some.ensures.1) c.in_ok-index.ensures) (mw_not (broken_ c.in_err-marks.ensures))))))))

pub returns-in-Some : goal.returns-in-Some
returns-in-Some c = tl c.index_end.ensures (λ v a. let u = ug a in rg (tr names refl refl c.in-Some.ensures.0 c.in-Some.ensures.1 (rg (rs refl (rg (rs refl (rg (took names c.in-Some.ensures.0 c.in-Some.ensures.1) c.in_ok-index.ensures) (mw (passed_ c.in_ok-marks.ensures)).1) refl) u.2) refl)) u.1) (λ a. fg (tf names refl refl c.in-Some.ensures.0 c.in-Some.ensures.1 (fs refl (mw (passed_ c.in_ok-marks.ensures)).1 (uf a)) (fg (fs refl (rg (rs refl (rg (took names c.in-Some.ensures.0 c.in-Some.ensures.1) c.in_ok-index.ensures) (mw (passed_ c.in_ok-marks.ensures)).1) refl) (uf a)))))

pub returns-in_err-place : goal.returns-in_err-place
returns-in_err-place c = bad c.from_residual-in_err-place.ensures.1 (λ e. fg (nf names refl refl refl c.in_default.ensures.0 c.in_default.ensures.1 (fg (no_ c.in_err-place.ensures e))))

pub returns : goal.returns
returns c = yes_ (rg (nr names refl refl c.in_default.ensures.0 c.in_default.ensures.1 (rg (ok c.in_ok-place.ensures) refl)) refl)
