use Rattle.std.proofs.Common.{arith, sym}
use Rattle.mm_parse_unit.proofs.Counted.{nothing_counted, ended, counted_on, all_counted, past_limit}
use Rattle.mm_parse_unit.proofs.count.first_past.Goals.{then-ends_count, else-ends_count}
use Rattle.mm_parse_unit.proofs.count.first_past.Goals as goal

pub loop-count-init : goal.loop-count-init
loop-count-init c = nothing_counted c.args.tokens.now

pub loop-count-smaller : goal.loop-count-smaller
loop-count-smaller c = omega (arith, c.if-at-tokens.true)

pub loop-count-preserved : goal.loop-count-preserved
loop-count-preserved c = elim c.if-ends_count.branch [
  | then-ends_count w ↦ ended _ _ _ _ _ _ c.loop-count.invariant c.loop-count-test.true c.if-at-tokens.true c.index-tokens-at.is c.ends_count.ensures (sym w.if-ends_count.true) w.count-is
  | else-ends_count w ↦ counted_on _ _ _ _ _ _ c.loop-count.invariant c.loop-count-test.true c.if-at-tokens.true c.index-tokens-at.is c.ends_count.ensures (sym w.if-ends_count.false) w.count-is
]

pub returns-else-at-tokens : goal.returns-else-at-tokens
returns-else-at-tokens c = all_counted _ _ _ c.loop-count.invariant (omega (arith, c.if-at-tokens.false))

pub returns-after-loop-count : goal.returns-after-loop-count
returns-after-loop-count c = past_limit _ _ _ c.loop-count.invariant (omega (arith, c.loop-count-test.false))
