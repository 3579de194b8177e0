use Rattle.std.proofs.Common.{◌<◌, arith}
use Rattle.mm_c_machine.proofs.Running.{run_more}
use Rattle.mm_c_machine.proofs.run.steps.Goals as goal

pub loop-e-preserved : goal.loop-e-preserved
loop-e-preserved c =
    let some : 0 < c.loop-e.left = omega (arith, c.if-left-eq0.false) in
    run_more _ _ _ _ _ _ _ _ _ _ _ c.loop-e.left some c.loop-e.invariant (rw c.in_default.is at c.in_ok-e.ensures.ok)
