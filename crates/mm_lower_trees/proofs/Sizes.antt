-- How deep trees are.
use Rattle.std.proofs.Common.{ℕ, suc, ◌+◌}
use Rattle.std.specs.Prelude.{max}
use Rattle.mm_core.specs.Tree.{Expr, set_local, convert, binary, negation, both, either, choose, call, builtin, Exprs, no_exprs, expr_and, Stmt, block, if_else, while_do, do_while, for_do, Stmts, no_stmts, stmt_and}

-- How deep an expression is: each is deeper than its parts.
abbrev mutual
  pub depth : Expr → ℕ
  depth (set_local x e) = suc (depth e)
  depth (convert t e) = suc (depth e)
  depth (binary op d e) = suc (max (depth d) (depth e))
  depth (negation e) = suc (depth e)
  depth (both d e) = suc (max (depth d) (depth e))
  depth (either d e) = suc (max (depth d) (depth e))
  depth (choose c d e) = suc (max (depth c) (max (depth d) (depth e)))
  depth (call f es) = suc (depth_all es)
  depth (builtin b es) = suc (depth_all es)
  depth other = 0

  pub depth_all : Exprs → ℕ
  depth_all no_exprs = 0
  depth_all (expr_and e es) = suc (max (depth e) (depth_all es))

-- How deep a statement is: each is deeper than its parts, and than what a loop makes of them.
abbrev mutual
  pub depth_stmt : Stmt → ℕ
  depth_stmt (block ss) = 2 + depth_stmts ss
  depth_stmt (if_else e ss ts) = 2 + max (depth_stmts ss) (depth_stmts ts)
  depth_stmt (while_do e ss) = 2 + depth_stmts ss
  depth_stmt (do_while ss e) = 2 + depth_stmts ss
  depth_stmt (for_do e s ss) = 2 + max (depth_stmt s) (depth_stmts ss)
  depth_stmt other = 0

  pub depth_stmts : Stmts → ℕ
  depth_stmts no_stmts = 0
  depth_stmts (stmt_and s ss) = suc (max (depth_stmt s) (depth_stmts ss))
