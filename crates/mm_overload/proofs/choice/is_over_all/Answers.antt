use Rattle.std.proofs.Common.{sym, map}
use Rattle.mm_overload.proofs.Choosing.{beats_all-more, params-map, low-map}
use Rattle.mm_overload.proofs.choice.is_over_all.Goals as goal

pub loop-i-preserved : goal.loop-i-preserved
loop-i-preserved c =
    let at = sym (params-map (λ x. x.now) c.args.all.now c.loop-i.i c.index-all-i.result
    c.index-all-i.is c.loop-i-test.true) in
    rw (c.is_below-over.ensures, at) (beats_all-more c.args.graph.now c.args.args.now (map (λ x.
    x.now) c.args.all.now) c.args.w c.args.best.now c.loop-i.over _ c.loop-i.i (low-map (λ x.
    x.now) c.args.all.now c.loop-i.i c.loop-i-test.true) c.loop-i.invariant)
