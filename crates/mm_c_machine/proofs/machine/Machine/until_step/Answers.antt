use Rattle.mm_c_machine.proofs.Ways.{way_start, way_more, way_steps, way_ends}
use Rattle.mm_c_machine.proofs.machine.Machine.until_step.Goals as goal

pub loop-e-init : goal.loop-e-init
loop-e-init c = way_start _ _ _ _ c.requires.fits c.requires.held

pub loop-e-preserved : goal.loop-e-preserved
loop-e-preserved c = way_more _ _ _ _ _ _ _ _ _ _ c.loop-e.invariant (rw c.in-On.is at c.in_ok-go.ensures.ok)

pub returns-in-Stepped-clause-ok : goal.returns-in-Stepped-clause-ok
returns-in-Stepped-clause-ok c = way_steps _ _ _ _ _ _ _ _ _ _ c.loop-e.invariant (rw c.in-Stepped.is at c.in_ok-go.ensures.ok)

pub returns-in-Over-clause-ok : goal.returns-in-Over-clause-ok
returns-in-Over-clause-ok c = way_ends _ _ _ _ _ _ _ _ _ c.loop-e.invariant (rw c.in-Over.is at c.in_ok-go.ensures.ok)
