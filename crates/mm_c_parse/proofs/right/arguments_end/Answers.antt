use Rattle.mm_c_parse.proofs.Steps.{yes_, bad, ok, no_, passed_, broken_}
use Rattle.mm_c_parse.proofs.Lists.{none_end_is, list_end, list_not_closed, list_not}
use Rattle.mm_c_parse.proofs.right.arguments_end.Goals as goal

pub returns-then-skip : goal.returns-then-skip
returns-then-skip c = yes_ (none_end_is _ c.new-none.ensures (c.skip.ensures.passed c.if-skip.true))

pub returns-in_err-list : goal.returns-in_err-list
returns-in_err-list c = bad c.from_residual.ensures.1 (λ e. list_not (c.skip.ensures.none c.if-skip.false).0 (c.skip.ensures.none c.if-skip.false).1 (no_ c.in_err-list.ensures e))

pub returns-in_err-marks : goal.returns-in_err-marks
returns-in_err-marks c = bad c.from_residual-in_err-marks.ensures.1 (λ e. list_not_closed (c.skip.ensures.none c.if-skip.false).0 (ok c.in_ok-list.ensures) (broken_ c.in_err-marks.ensures))

pub returns : goal.returns
returns c = yes_ (list_end (c.skip.ensures.none c.if-skip.false).0 (ok c.in_ok-list.ensures) (passed_ c.in_ok-marks.ensures))
