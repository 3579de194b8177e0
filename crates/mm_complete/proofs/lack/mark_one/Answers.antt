use Rattle.std.proofs.Common.{arith}
use Rattle.mm_complete.proofs.Marks.{set_one, set_none}
use Rattle.mm_complete.proofs.lack.mark_one.Goals as goal

pub returns-then-number-len-clause-each : goal.returns-then-number-len-clause-each
returns-then-number-len-clause-each c = set_one c.args.marks.now.items c.args.number (omega (arith, c.if-number-len.true, c.len.ensures, c.args.marks.now.ok.0))

pub returns-else-number-len-clause-each : goal.returns-else-number-len-clause-each
returns-else-number-len-clause-each c = set_none c.args.marks.now.items c.args.number (omega (arith, c.if-number-len.false, c.len.ensures, c.args.marks.now.ok.0))
