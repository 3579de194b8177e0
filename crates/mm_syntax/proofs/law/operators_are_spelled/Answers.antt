use Rattle.mm_syntax.proofs.Spelled as spelled
use Rattle.mm_syntax.proofs.law.operators_are_spelled.Goals as goal

pub returns : goal.returns
returns c = spelled.operators_are_spelled
