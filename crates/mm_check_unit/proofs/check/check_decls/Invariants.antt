use Rattle.mm_check_function.specs.Known.{functions_view}
use Rattle.mm_check_unit.proofs.Decls.{DeclsSoFar}
use Rattle.mm_check_unit.proofs.check.check_decls.Given as goal

abbrev pub invariant-loop-x : goal.invariant-loop-x
invariant-loop-x l = DeclsSoFar (functions_view l.fn.fs) l.decls l.x-index l.env (functions_view l.fs)
