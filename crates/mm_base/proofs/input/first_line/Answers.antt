use Rattle.std.proofs.Common.{arith}
use Rattle.mm_base.proofs.Lines.{lines_some, lines_none}
use Rattle.mm_base.proofs.input.first_line.Goals as goal

pub returns-in-Some-clause-cut : goal.returns-in-Some-clause-cut
returns-in-Some-clause-cut c =
    let found = c.end_of_line.ensures in
    grind (arith, lines_some)

pub returns-in-None-clause-cut : goal.returns-in-None-clause-cut
returns-in-None-clause-cut c =
    let found = c.end_of_line.ensures in
    grind (arith, lines_none)
