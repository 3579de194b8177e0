use Rattle.mm_syntax.proofs.FirstTokens as first
use Rattle.mm_syntax.proofs.law.first_is_spelled.Goals as goal

pub returns : goal.returns
returns c = first.first_is_spelled
