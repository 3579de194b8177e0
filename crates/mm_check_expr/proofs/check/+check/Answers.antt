use Rattle.std.proofs.lemmas.Result.{err_from_is_err_and}
use Rattle.std.proofs.lemmas.List.{map-append}
use Rattle.mm_typing.specs.Typed.{typed_view}
use Rattle.mm_check_expr.proofs.Sizes.{size_at}
use Rattle.mm_check_expr.proofs.Loops.{all_start, all_next, all_end, fails_as}
use Rattle.mm_check_expr.proofs.check.+check.Goals as goal

pub check_all-loop-e-init : goal.check_all-loop-e-init
check_all-loop-e-init t c = rw c.new-args.ensures (all_start _ _)

pub check_all-loop-e-preserved : goal.check_all-loop-e-preserved
check_all-loop-e-preserved t c = rw (c.in_ok-push.ensures.ok, map-append) (all_next _ _ _ _ c.e-item.result c.e-item.is c.loop-e-test.true c.loop-e.invariant (typed_view c.in_ok-check.field-0) c.in_ok-check.ensures)

pub check_all-returns : goal.check_all-returns
check_all-returns t c = all_end _ _ _ _ c.loop-e-test.false c.loop-e.invariant

pub check_all-returns-in_err-check : goal.check_all-returns-in_err-check
check_all-returns-in_err-check t c =
    let p = err_from_is_err_and c.from_residual.result c.from_residual.ensures.1 in
    let k = fails_as _ _ _ _ c.e-item.result c.e-item.is c.loop-e-test.true c.loop-e.invariant c.in_err-check.field-0.0 c.in_err-check.ensures in
    rw (p.1, p.2) k

pub check_all-check-requires : goal.check_all-check-requires
check_all-check-requires t c =
    let h = size_at c.args.es.now c.loop-e.e-index c.e-item.result c.loop-e-test.true c.e-item.is in
    let d = c.decreases in
    (rw d at h, tt)
