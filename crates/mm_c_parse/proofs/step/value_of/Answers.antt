use Rattle.mm_c_parse.proofs.Words.{number_is}
use Rattle.mm_c_parse.proofs.step.value_of.Goals as goal

pub unreachable-requires : goal.unreachable-requires
unreachable-requires c = c.in-None.ensures (number_is c.args.token.text.now c.requires)
