use Rattle.std.proofs.Common.{map}
use Rattle.mm_overload.proofs.Choosing.{champion-more, low-map}
use Rattle.mm_overload.proofs.choice.find_champion.Goals as goal

pub loop-i-preserved : goal.loop-i-preserved
loop-i-preserved c = record {
  same = rw c.met-held.ensures.is (champion-more c.args.graph.now c.args.args.now (map (λ x.
      x.now) c.args.all.now) c.loop-i.held c.loop-i.i _ (low-map (λ x. x.now) c.args.all.now
      c.loop-i.i c.loop-i-test.true) c.loop-i.invariant.same);
  low = c.met-held.ensures.low;
}
