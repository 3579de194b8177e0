use Rattle.std.proofs.Common.{◌+◌, ◌-◌, ◌/◌, ◌<◌, arith}
use Rattle.mm_virtual.proofs.Halving.{upper_half, lower_half}
use Rattle.mm_virtual.proofs.finals.place_in.Goals as goal

pub loop-high-preserved-then-members-middle : goal.loop-high-preserved-then-members-middle
loop-high-preserved-then-members-middle c =
    let inside : c.loop-high.low + (c.loop-high.high - c.loop-high.low) / 2 < c.loop-high.high = omega arith in
    record { has = upper_half c.args.members.now c.args.member c.loop-high.low (c.loop-high.low + (c.loop-high.high - c.loop-high.low) / 2) c.loop-high.high c.requires.rises c.loop-high.invariant.has inside c.if-members-middle.true }

pub loop-high-preserved : goal.loop-high-preserved
loop-high-preserved c =
    let inside : c.loop-high.low + (c.loop-high.high - c.loop-high.low) / 2 < c.loop-high.high = omega arith in
    record { has = lower_half c.args.members.now c.args.member c.loop-high.low (c.loop-high.low + (c.loop-high.high - c.loop-high.low) / 2) c.loop-high.high c.requires.rises c.loop-high.invariant.has inside c.if-members-middle.false }
