-- Sizes of statements, which fall from a call to those inside it.
use Rattle.std.specs.Prelude.{ℕ, ◌+◌}
use Rattle.mm_syntax.specs.Tree.{Stmt, block, empty, run, declare, if_then, if_else, while_do, do_while, for_do, break, continue, return_nothing, return, Stmts, no_stmts, stmt_and}

abbrev mutual
  pub size : Stmt → ℕ
  size (block p ss) = sizes ss + 2
  size (empty p) = 1
  size (run p e) = 1
  size (declare p x) = 1
  size (if_then p e a) = size a + 4
  size (if_else p e a b) = size a + size b + 4
  size (while_do p e a) = size a + 4
  size (do_while p a e) = size a + 4
  size (for_do p start c s a) = size a + 6
  size (break p) = 1
  size (continue p) = 1
  size (return_nothing p) = 1
  size (return p e) = 1

  pub sizes : Stmts → ℕ
  sizes no_stmts = 0
  sizes (stmt_and s ss) = size s + sizes ss + 1
