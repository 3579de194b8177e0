use Rattle.std.proofs.Common.{ap, ◌∙◌}
use Rattle.mm_c.specs.View.{stmt_view}
use Rattle.mm_c.proofs.Views.{view-Return, view-ReturnValue}
use Rattle.mm_c_parse.proofs.Steps.{yes_, ok, no_, passed_, broken_}
use Rattle.mm_c_parse.proofs.Seen.{bad_seen}
use Rattle.mm_c_parse_stmt.proofs.Returns.{leaves, no_value, value_not_ended, returns_value}
use Rattle.mm_c_parse_stmt.proofs.simple.return_end.Goals as goal

pub returns-then-skip : goal.returns-then-skip
returns-then-skip c = yes_ (leaves (ap stmt_view c.in_ok-new.ensures ∙ view-Return) (c.skip.ensures.passed c.if-skip.true))

pub returns-in_err-value : goal.returns-in_err-value
returns-in_err-value c = let n = c.skip.ensures.none c.if-skip.false in bad_seen stmt_view _ c.from_residual-in_err-value.ensures.1 (λ e. no_value n.0 n.1 (no_ c.in_err-value.ensures e))

pub returns-in_err-marks : goal.returns-in_err-marks
returns-in_err-marks c = let n = c.skip.ensures.none c.if-skip.false in bad_seen stmt_view _ c.from_residual-in_err-marks.ensures.1 (λ e. value_not_ended n.0 (ok c.in_ok-value.ensures) (broken_ c.in_err-marks.ensures))

pub returns : goal.returns
returns c = let n = c.skip.ensures.none c.if-skip.false in yes_ (returns_value n.0 (ap stmt_view c.in_ok-new-2.ensures ∙ view-ReturnValue _) (ok c.in_ok-value.ensures) (passed_ c.in_ok-marks.ensures))
