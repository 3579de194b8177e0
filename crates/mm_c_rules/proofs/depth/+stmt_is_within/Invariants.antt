use Rattle.std.proofs.Common.{◌≡◌, drop}
use Rattle.std.specs.Prelude.{nat_le}
use Rattle.mm_c.specs.View.{code_view}
use Rattle.mm_c.specs.WellFormed.{code_depth}
use Rattle.mm_c_rules.proofs.depth.+stmt_is_within.Given as goal

abbrev pub invariant-code_is_within-loop-stmt : goal.invariant-code_is_within-loop-stmt
invariant-code_is_within-loop-stmt l = nat_le (code_depth (code_view l.stmts)) l.most ≡ nat_le (code_depth (code_view (drop l.stmt-index l.stmts))) l.most
