use Rattle.std.proofs.Common.{◌≡◌, drop}
use Rattle.mm_c.specs.View.{code_view}
use Rattle.mm_c.specs.WellFormed.{code_breaks}
use Rattle.mm_c_rules.specs.Scopes.{here_at}
use Rattle.mm_c_rules.specs.Keeps.{keeps, left_of}
use Rattle.mm_c_rules.proofs.statements.+stmt_keeps.Given as goal

abbrev pub invariant-code_keeps-loop-stmt : goal.invariant-code_keeps-loop-stmt
invariant-code_keeps-loop-stmt l =
    (keeps (code_breaks (here_at l.place l.fn.scope) (code_view l.stmts)) ≡ keeps (code_breaks (here_at l.place l.fn.scope) (code_view (drop l.stmt-index l.stmts))))
    × (left_of l.fn.left (code_breaks (here_at l.place l.fn.scope) (code_view l.stmts)) ≡ left_of l.left (code_breaks (here_at l.place l.fn.scope) (code_view (drop l.stmt-index l.stmts))))
    × (l.scope ≡ l.fn.scope)
