-- What stands inside a statement: whether each statement there breaks a rule.
use Rattle.std.specs.Prelude.{Bool, true, List, [], ◌++◌}
use Rattle.mm_c.specs.Tree.{Stmt, assign, store, run, if_only, if_else, forever, break, continue, leave, return}
use Rattle.mm_c.specs.WellFormed.{Here, block_breaks}

abbrev pub inner : Here → Stmt → List Bool
inner h (if_only a b) = block_breaks h b
inner h (if_else a b c) = block_breaks h b ++ block_breaks h c
inner h (forever b) = block_breaks (record h { in_loop = true }) b
inner h _ = []
