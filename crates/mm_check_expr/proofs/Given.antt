-- What goals are rewritten by: the plain trees of trees in memory.
use Rattle.mm_core.proofs.Views.{core_rules}
use Rattle.mm_syntax.proofs.Views.{expr_rules}

pub ruleset rules_of_trees = (core_rules, expr_rules)
