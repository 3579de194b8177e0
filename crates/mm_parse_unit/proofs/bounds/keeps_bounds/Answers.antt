use Rattle.mm_parse_unit.proofs.BoundsKept.{keeps}
use Rattle.mm_parse_unit.proofs.bounds.keeps_bounds.Goals as goal

pub returns : goal.returns
returns c tokens tree h = keeps tokens tree h
