use Rattle.mm_grammar.proofs.Small.{nearest_else}
use Rattle.mm_grammar.proofs.nearest_else.Goals as goal

pub returns : goal.returns
returns c = nearest_else
