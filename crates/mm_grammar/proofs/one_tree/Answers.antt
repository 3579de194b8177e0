use Rattle.mm_grammar.proofs.Small.{one_tree}
use Rattle.mm_grammar.proofs.one_tree.Goals as goal

pub returns : goal.returns
returns c = one_tree
