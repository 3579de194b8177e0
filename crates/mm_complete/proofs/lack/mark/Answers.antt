use Rattle.std.proofs.Common.{ℕ, ◌<◌, ap, ◌∙◌, refl}
use Rattle.mm_complete.proofs.Marks.{SoFar, start, next, end}
use Rattle.mm_complete.proofs.lack.mark.Goals as goal

pub loop-number-init : goal.loop-number-init
loop-number-init c = let h = c.in_ok-marks.ensures.items_if_clones_equal in start c.args.count c.args.numbers.now c.in_ok-marks.marks.items (h (λ y e. e))

pub loop-number-preserved : goal.loop-number-preserved
loop-number-preserved c =
    next c.args.count c.args.numbers.now c.loop-number.number-index c.loop-number.marks.items c.mark_one.new.marks.items c.loop-number-test.true c.loop-number.invariant c.mark_one.ensures.lengths c.mark_one.ensures.each

pub returns : goal.returns
returns c = end c.args.count c.args.numbers.now c.loop-number.number-index c.loop-number.marks.items c.loop-number-test.false c.loop-number.invariant
