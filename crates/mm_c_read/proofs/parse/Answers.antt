use Rattle.std.proofs.Common.{ap, sym, subst}
use Rattle.mm_c.specs.Spelling.{RefusedAt}
use Rattle.mm_c_parse_item.specs.Parsed.{placed_of, placed_in}
use Rattle.mm_c_read.proofs.Stops.{whole, goes_on}
use Rattle.mm_c_read.proofs.parse.Goals as goal

pub returns-in-None : goal.returns-in-None
returns-in-None c =
    whole c.args.text.now c.new-cursor.result c.program.new.cursor c.new-cursor.ensures (placed_of c.in-Ok.parsed) (c.program.ensures.read (placed_of c.in-Ok.parsed) (ap placed_in c.in-Ok.is)) c.in-None.ensures

pub returns-in-Some : goal.returns-in-Some
returns-in-Some c =
    let e = c.in-Some.ensures in
    subst (RefusedAt c.args.text.now) (sym e.3)
    (goes_on c.args.text.now c.new-cursor.result c.program.new.cursor c.new-cursor.ensures (placed_of c.in-Ok.parsed) e.0 e.1 (c.program.ensures.read (placed_of c.in-Ok.parsed) (ap placed_in c.in-Ok.is)) e.2)
