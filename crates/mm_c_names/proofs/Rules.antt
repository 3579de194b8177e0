-- What is known of names, for the search.
use Rattle.mm_c_names.proofs.Named.{named_some, named_none, is_in-append}
use Rattle.mm_c_names.proofs.Shown.{shown_first, shown-more}

pub ruleset global_rules = (is_in-append, named_some, named_none)

pub ruleset scope_rules = (shown_first, shown-more)
