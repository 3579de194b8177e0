use Rattle.std.proofs.lemmas.Result.{err_from_is_err_and}
use Rattle.mm_check_unit.proofs.Decls.{decls_start, decls_next, decls_fail_as, decls_end}
use Rattle.mm_check_unit.proofs.check.check_decls.Goals as goal

pub loop-x-init : goal.loop-x-init
loop-x-init c = decls_start _ _ _ c.requires

pub loop-x-preserved : goal.loop-x-preserved
loop-x-preserved c = decls_next _ _ _ _ _ c.x-item.result c.x-item.is c.loop-x-test.true c.loop-x.invariant _ _ c.in_ok-check_decl.ensures.is c.in_ok-check_decl.ensures.env

pub returns-in_err-check_decl : goal.returns-in_err-check_decl
returns-in_err-check_decl c =
    let p = err_from_is_err_and c.from_residual.result c.from_residual.ensures.1 in
    let k = decls_fail_as _ _ _ _ _ c.x-item.result c.x-item.is c.loop-x-test.true c.loop-x.invariant c.in_err-check_decl.field-0.0 c.in_err-check_decl.ensures.is in
    rw (p.1, p.2) k

pub returns : goal.returns
returns c = decls_end _ _ _ _ _ c.loop-x-test.false c.loop-x.invariant
