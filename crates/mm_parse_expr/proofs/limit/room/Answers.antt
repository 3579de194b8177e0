use Rattle.std.proofs.Common.{arith}
use Rattle.mm_parse_expr.proofs.Count.{ended, counted, last_of}
use Rattle.mm_parse_expr.proofs.limit.room.Goals as goal

pub returns-then-ends_count : goal.returns-then-ends_count
returns-then-ends_count c =
    ended _ _ _ _ _ (last_of c.args.tokens.now c.loop-room.before c.index-tokens-before.result (omega (arith, c.if-before-gt0.true)) c.loop-room.invariant.within c.index-tokens-before.is) c.if-ends_count.ensures c.loop-room.invariant.counted c.loop-room.invariant.most

pub loop-room-preserved : goal.loop-room-preserved
loop-room-preserved c = record {
  counted = counted _ _ _ _ _ (last_of c.args.tokens.now c.loop-room.before c.index-tokens-before.result (omega (arith, c.if-before-gt0.true)) c.loop-room.invariant.within c.index-tokens-before.is) c.if-ends_count.ensures c.loop-room.invariant.counted (omega (arith, c.loop-room-test.true)) c.loop-room.invariant.most;
  most = omega (arith, c.loop-room.invariant.most);
  within = omega (arith, c.loop-room.invariant.within);
}
