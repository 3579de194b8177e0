use Rattle.std.proofs.Common.{refl}
use Rattle.mm_c.specs.View.{stmt_view}
use Rattle.mm_c_parse.proofs.Steps.{yes_, ok, no_, passed_, broken_, rg, fg, ff, fs, mw, mw_not, ug, uf}
use Rattle.mm_c_parse.proofs.Seen.{bad_seen, rl}
use Rattle.mm_c_parse_stmt.proofs.simple.simple_end.Goals as goal

pub returns-in_err-stmt : goal.returns-in_err-stmt
returns-in_err-stmt c = bad_seen stmt_view _ c.from_residual.ensures.1 (λ e. fg (fg (ff refl (uf (no_ c.in_err-stmt.ensures e)))))

pub returns-in_err-marks : goal.returns-in_err-marks
returns-in_err-marks c = let u = ug (ok c.in_ok-stmt.ensures) in bad_seen stmt_view _ c.from_residual-in_err-marks.ensures.1 (λ e. fg (fg (fs refl u.2 (mw_not (broken_ c.in_err-marks.ensures)))))

pub returns : goal.returns
returns c = let u = ug (ok c.in_ok-stmt.ensures) in yes_ (rg (rl refl u.2 (mw (passed_ c.in_ok-marks.ensures)).1) u.1)
