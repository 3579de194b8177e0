use Rattle.std.proofs.Common.{◌≡◌, length, subst, arith}
use Rattle.mm_classes.specs.Subobjects.{subobjects_of}
use Rattle.mm_virtual.specs.Kept.{IsBestOf}
use Rattle.mm_virtual.proofs.over.best.Goals as goal

pub returns : goal.returns
returns c = subst (IsBestOf c.args.graph.now c.args.d c.args.n c.args.m.now c.loop-t.best)
    (let a = c.loop-t.invariant.low in let b = c.loop-t-test.false in let k = c.count-count.ensures.count in let z : c.loop-t.t ≡ length (subobjects_of c.args.graph.now c.args.d) = omega arith in z) c.loop-t.invariant.so_far
