-- Which steps of a `for` are alike. (Own.)
use Rattle.std.specs.Prelude.{Bool, true, false}
use Rattle.mm_core.specs.Tree.{Stmt, block, run, no_stmts}

-- an empty block
abbrev pub is_nothing : Stmt → Bool
is_nothing (block no_stmts) = true
is_nothing other = false

-- an expression
abbrev pub is_run : Stmt → Bool
is_run (run e) = true
is_run other = false
