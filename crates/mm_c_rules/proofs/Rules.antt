-- What the rules come to, for the search.
use Rattle.std.proofs.lemmas.List.{append-nil}
use Rattle.std.proofs.lemmas.Option.{slice_get-map, slice_get_within}
use Rattle.std.proofs.Common.{append_assoc}
use Rattle.mm_c.proofs.Views.{view-Assign, view-Store, view-Call, view-If, view-IfElse, view-While, view-Break, view-Continue, view-Return, view-ReturnValue, view-block}
use Rattle.mm_c_rules.proofs.Arguments.{fit_more, fit_short, fit_end}
use Rattle.mm_c_rules.proofs.Deep.{most-max, most-suc, depth-more}
use Rattle.mm_c_rules.proofs.Own.{held-push, code_locals-more, locals-block}
use Rattle.mm_c_rules.proofs.Pairs.{kinds_end, locals_end, within_more}

pub ruleset rule_rules = (slice_get_within, fit_more, fit_short, fit_end, slice_get-map)

-- where a statement is taken apart
pub ruleset view_rules = (view-Assign, view-Store, view-Call, view-If, view-IfElse, view-While, view-Break, view-Continue, view-Return, view-ReturnValue)

-- where a walk goes over blocks
pub ruleset local_rules = (held-push, code_locals-more, locals-block, append-nil, append_assoc, view-Assign, view-Store, view-Call, view-If, view-IfElse, view-While, view-Break, view-Continue, view-Return, view-ReturnValue)

pub ruleset depth_rules = (most-max, most-suc, depth-more, view-Assign, view-Store, view-Call, view-If, view-IfElse, view-While, view-Break, view-Continue, view-Return, view-ReturnValue, view-block)

-- where two lists are gone over side by side
pub ruleset pair_rules = (kinds_end, locals_end, within_more)
