use Rattle.mm_parse_var.proofs.Exits.{mark_some, mark_none}
use Rattle.mm_parse_var.proofs.types.mark.Goals as goal

pub returns-in-Some-clause-reads : goal.returns-in-Some-clause-reads
returns-in-Some-clause-reads c = mark_some _ _ _ _ c.in-Some.ensures c.declarator_mark.ensures

pub returns-in-None-clause-reads : goal.returns-in-None-clause-reads
returns-in-None-clause-reads c = mark_none _ _ c.in-None.ensures
