use Rattle.mm_command.proofs.Numbers.{next, end}
use Rattle.mm_command.proofs.lines.add_lines.Goals as goal

pub loop-number-preserved : goal.loop-number-preserved
loop-number-preserved c = next c.args.text.now.items c.args.numbers.now c.loop-number.number-index c.loop-number.text.items c.loop-number-test.true c.loop-number.invariant c.add_line.new.text.items c.in_ok-add_line.ensures

pub returns : goal.returns
returns c = end c.args.text.now.items c.args.numbers.now c.loop-number.number-index c.loop-number.text.items c.loop-number-test.false c.loop-number.invariant
