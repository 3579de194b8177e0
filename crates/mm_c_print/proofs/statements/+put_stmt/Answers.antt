use Rattle.mm_c_print.proofs.Texts.{wrote_code}
use Rattle.mm_c_print.proofs.statements.+put_stmt.Goals as goal

pub put_code-loop-stmt-preserved : goal.put_code-loop-stmt-preserved
put_code-loop-stmt-preserved t c =
    wrote_code _ c.loop-stmt.stmt-index c.stmt-item.result _ _ _ c.loop-stmt-test.true c.stmt-item.is c.loop-stmt.invariant c.in_ok-put_stmt.ensures
