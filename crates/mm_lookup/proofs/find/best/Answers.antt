use Rattle.std.proofs.Common.{◌≡◌, length, subst, arith}
use Rattle.mm_classes.specs.Subobjects.{subobjects_of}
use Rattle.mm_lookup.specs.Lookup.{IsBestOf}
use Rattle.mm_lookup.proofs.find.best.Goals as goal

pub returns : goal.returns
returns c = subst (IsBestOf c.args.graph.now c.args.c c.args.name.now c.loop-n.best)
    (let a = c.loop-n.invariant.low in let b = c.loop-n-test.false in let k = c.count-count.ensures.count in let z : c.loop-n.n ≡ length (subobjects_of c.args.graph.now c.args.c) = omega arith in z) c.loop-n.invariant.so_far
