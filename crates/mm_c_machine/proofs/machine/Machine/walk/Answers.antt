use Rattle.std.proofs.Common.{[], ap}
use Rattle.mm_base.specs.World.{world_of}
use Rattle.mm_c_placed.specs.View.{code_view}
use Rattle.mm_c_machine.specs.State.{with_at, code}
use Rattle.mm_c_machine.proofs.Walks.{walk_start, walk_more, walk_end}
use Rattle.mm_c_machine.proofs.machine.Machine.walk.Goals as goal

pub loop-next-init : goal.loop-next-init
loop-next-init c = walk_start _ _ _ c.requires.fits c.requires.held

pub loop-next-preserved : goal.loop-next-preserved
loop-next-preserved c = walk_more _ _ _ _ _ _ _ c.loop-next.invariant (rw c.in-Some.is at c.in_ok-next.ensures)

pub loop-next-smaller : goal.loop-next-smaller
loop-next-smaller c =
    let some = c.loop-next.invariant.some in
    ((rw c.in-Some.is at c.in_ok-next.ensures) some.0 (world_of []) some.1).less

pub returns-in-None : goal.returns-in-None
returns-in-None c =
    let some = c.loop-next.invariant.some in
    let same = (rw c.in-None.is at c.in_ok-next.ensures) some.0 (world_of []) some.1 in
    walk_end _ _ _ _ _ _ _ c.loop-next.invariant (ap (λ q. with_at q (code (code_view c.loop-next.left.now))) same.0) same.1
