use Rattle.std.proofs.Common.{◌≡◌, ◌++◌, take}
use Rattle.mm_c.specs.View.{code_view}
use Rattle.mm_c.specs.Printing.{text_of}
use Rattle.mm_c.specs.Printing.{code_tokens}
use Rattle.mm_c_print.proofs.statements.+put_stmt.Given as goal

abbrev pub invariant-put_code-loop-stmt : goal.invariant-put_code-loop-stmt
invariant-put_code-loop-stmt l = l.out.items ≡ l.initial.out.items ++ text_of (code_tokens (code_view (take l.stmt-index l.stmts)))
