use Rattle.mm_parse_expr.proofs.Longest.{one_tree}
use Rattle.mm_parse_expr.proofs.one_tree.Goals as goal

pub returns : goal.returns
returns c = one_tree
