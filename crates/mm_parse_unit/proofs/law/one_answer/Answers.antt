use Rattle.mm_parse_unit.proofs.OneAnswer.{one_answer}
use Rattle.mm_parse_unit.proofs.law.one_answer.Goals as goal

pub returns : goal.returns
returns c = one_answer
