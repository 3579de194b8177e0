use Rattle.mm_c_parse.proofs.Words.{name_utf8}
use Rattle.mm_c_parse.proofs.step.text_of.Goals as goal

pub unreachable-requires : goal.unreachable-requires
unreachable-requires c = c.in-Err.ensures.cases.0 (name_utf8 _ c.requires)
