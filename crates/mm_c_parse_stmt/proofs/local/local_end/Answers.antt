use Rattle.mm_c_parse.proofs.Steps.{yes_, bad, ok, no_, passed_, broken_}
use Rattle.mm_c_parse_stmt.proofs.Locals.{end_no_name, end_broken, end_reads}
use Rattle.mm_c_parse_stmt.proofs.local.local_end.Goals as goal

pub returns-in_err-name : goal.returns-in_err-name
returns-in_err-name c = bad c.from_residual.ensures.1 (λ e. end_no_name (no_ c.in_err-name.ensures e))

pub returns-in_err-marks : goal.returns-in_err-marks
returns-in_err-marks c = bad c.from_residual-in_err-marks.ensures.1 (λ e. end_broken (ok c.in_ok-name.ensures) (broken_ c.in_err-marks.ensures))

pub returns : goal.returns
returns c = yes_ (end_reads (ok c.in_ok-name.ensures) (passed_ c.in_ok-marks.ensures))
