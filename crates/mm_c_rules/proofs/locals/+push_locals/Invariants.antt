use Rattle.std.proofs.Common.{◌≡◌, ◌++◌, take}
use Rattle.mm_c.specs.View.{code_view}
use Rattle.mm_c.specs.WellFormed.{code_locals}
use Rattle.mm_c_rules.specs.Locals.{held}
use Rattle.mm_c_rules.proofs.locals.+push_locals.Given as goal

abbrev pub invariant-push_in_code-loop-stmt : goal.invariant-push_in_code-loop-stmt
invariant-push_in_code-loop-stmt l = held l.all.items ≡ held l.fn.all.items ++ code_locals (code_view (take l.stmt-index l.stmts))
