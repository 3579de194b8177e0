use Rattle.std.proofs.Common.{◌∷◌, [], refl, ap, ◌∙◌}
use Rattle.mm_c.specs.Tree as t
use Rattle.mm_c.specs.View.{stmt_view}
use Rattle.mm_c.proofs.Views.{view-Assign, view-Call}
use Rattle.mm_c_parse.proofs.Steps.{yes_, ok, no_, passed_, broken_, rg, fg, mr, mf, mb, kr, kf, nr, nf, ug, uf}
use Rattle.mm_c_parse.proofs.Seen.{bad_seen}
use Rattle.mm_c_parse_stmt.proofs.simple.after_first.Goals as goal

pub returns-in_err-value : goal.returns-in_err-value
returns-in_err-value c =
    let k = c.skip.ensures.passed c.if-skip.true in
    bad_seen stmt_view _ c.from_residual.ensures.1 (λ e. fg (kf refl refl k (no_ c.in_err-value.ensures e) (fg (mf (28 ∷ []) refl k (no_ c.in_err-value.ensures e)))))

pub returns-then-skip : goal.returns-then-skip
returns-then-skip c =
    let k = c.skip.ensures.passed c.if-skip.true in
    yes_ (rg (kr refl refl k (rg (mr (28 ∷ []) refl k (ok c.in_ok-value.ensures)) refl)) (ap stmt_view c.in_ok-new.ensures ∙ view-Assign _ _))

pub returns-in_err-list : goal.returns-in_err-list
returns-in_err-list c =
    let n = c.skip.ensures.none c.if-skip.false in
    let k = c.skip-2.ensures.passed c.if-skip-2.true in
    bad_seen stmt_view _ c.from_residual-in_err-list.ensures.1 (λ e. fg (nf (28 ∷ []) refl refl refl n.0 n.1 (kf refl refl k (no_ c.in_err-list.ensures e) (fg (mf (20 ∷ []) refl k (no_ c.in_err-list.ensures e))))))

pub returns-then-skip-2 : goal.returns-then-skip-2
returns-then-skip-2 c =
    let n = c.skip.ensures.none c.if-skip.false in
    let k = c.skip-2.ensures.passed c.if-skip-2.true in
    yes_ (rg (nr (28 ∷ []) refl refl n.0 n.1 (kr refl refl k (rg (mr (20 ∷ []) refl k (ok c.in_ok-list.ensures)) refl))) (ap stmt_view c.in_ok-new-2.ensures ∙ view-Call _))

pub returns-in_err-marks : goal.returns-in_err-marks
returns-in_err-marks c =
    let n = c.skip.ensures.none c.if-skip.false in
    let m = c.skip-2.ensures.none c.if-skip-2.false in
    bad_seen stmt_view _ c.from_residual-in_err-marks.ensures.1 (λ e. fg (nf (28 ∷ []) refl refl refl n.0 n.1 (nf (20 ∷ []) refl refl refl m.0 m.1 (fg (mb (24 ∷ []) _ refl (broken_ c.in_err-marks.ensures))))))

pub returns-in_err-call : goal.returns-in_err-call
returns-in_err-call c =
    let n = c.skip.ensures.none c.if-skip.false in
    let m = c.skip-2.ensures.none c.if-skip-2.false in
    bad_seen stmt_view _ c.from_residual-in_err-call.ensures.1 (λ e. fg (nf (28 ∷ []) refl refl refl n.0 n.1 (nf (20 ∷ []) refl refl refl m.0 m.1 (fg (mf (24 ∷ []) refl (passed_ c.in_ok-marks.ensures) (uf (no_ c.in_err-call.ensures e)))))))

pub returns : goal.returns
returns c =
    let n = c.skip.ensures.none c.if-skip.false in
    let m = c.skip-2.ensures.none c.if-skip-2.false in
    let u = ug (ok c.in_ok-call.ensures) in
    yes_ (rg (nr (28 ∷ []) refl refl n.0 n.1 (nr (20 ∷ []) refl refl m.0 m.1 (rg (mr (24 ∷ []) refl (passed_ c.in_ok-marks.ensures) u.2) refl))) (ap stmt_view c.in_ok-new-3.ensures ∙ (view-Call _ ∙ ap t.run u.1)))
