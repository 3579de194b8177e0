-- How deep the tree of a body is, and how long the longest list in it, counted as a record of the
-- unit counts its nodes: a block under `if` or a loop is a node, and so is the field whose value
-- `compound` changes. (Own.)
use Rattle.std.specs.Prelude.{ℕ, suc, max}
use Rattle.mm_core.specs.Tree.{Expr, int, unsigned, bool, null, local, set_local, field, set_field, not_null, move, convert, binary, negation, both, either, choose, call, virtual_call, open_call, builtin, new, step_local, step_field, compound, Exprs, no_exprs, expr_and, Stmt, block, run, if_else, while_do, do_while, for_do, break, continue, return_nothing, return, make, Stmts, no_stmts, stmt_and}

-- ---- depth

abbrev mutual
  pub depth : Expr → ℕ
  depth (int z) = 1
  depth (unsigned n) = 1
  depth (bool b) = 1
  depth (null c) = 1
  depth (local x) = 1
  depth (set_local x e) = suc (depth e)
  depth (field f e) = suc (depth e)
  depth (set_field f e d) = suc (max (depth e) (depth d))
  depth (not_null e) = suc (depth e)
  depth (move c n e) = suc (depth e)
  depth (convert t e) = suc (depth e)
  depth (binary op d e) = suc (max (depth d) (depth e))
  depth (negation e) = suc (depth e)
  depth (both d e) = suc (max (depth d) (depth e))
  depth (either d e) = suc (max (depth d) (depth e))
  depth (choose c d e) = suc (max (depth c) (max (depth d) (depth e)))
  depth (call f es) = suc (all_depth es)
  depth (virtual_call m e es) = suc (max (depth e) (all_depth es))
  depth (open_call f es) = suc (all_depth es)
  depth (builtin b es) = suc (all_depth es)
  depth (new c) = 1
  depth (step_local x c) = 1
  depth (step_field f c e) = suc (depth e)
  depth (compound op f e d) = suc (max (suc (depth e)) (depth d))

  pub all_depth : Exprs → ℕ
  all_depth no_exprs = 0
  all_depth (expr_and e es) = max (depth e) (all_depth es)

abbrev mutual
  pub stmt_depth : Stmt → ℕ
  stmt_depth (block ss) = suc (stmts_depth ss)
  stmt_depth (run e) = suc (depth e)
  stmt_depth (if_else e ss ts) = suc (max (depth e) (suc (max (stmts_depth ss) (stmts_depth ts))))
  stmt_depth (while_do e ss) = suc (max (depth e) (suc (stmts_depth ss)))
  stmt_depth (do_while ss e) = suc (max (depth e) (suc (stmts_depth ss)))
  stmt_depth (for_do e s ss) = suc (max (depth e) (max (stmt_depth s) (suc (stmts_depth ss))))
  stmt_depth break = 1
  stmt_depth continue = 1
  stmt_depth return_nothing = 1
  stmt_depth (return e) = suc (depth e)
  stmt_depth (make x) = 1

  pub stmts_depth : Stmts → ℕ
  stmts_depth no_stmts = 0
  stmts_depth (stmt_and s ss) = max (stmt_depth s) (stmts_depth ss)

-- ---- the longest list

abbrev pub count : Exprs → ℕ
count no_exprs = 0
count (expr_and e es) = suc (count es)

abbrev pub count_stmts : Stmts → ℕ
count_stmts no_stmts = 0
count_stmts (stmt_and s ss) = suc (count_stmts ss)

abbrev mutual
  pub width : Expr → ℕ
  width (int z) = 0
  width (unsigned n) = 0
  width (bool b) = 0
  width (null c) = 0
  width (local x) = 0
  width (set_local x e) = width e
  width (field f e) = width e
  width (set_field f e d) = max (width e) (width d)
  width (not_null e) = width e
  width (move c n e) = width e
  width (convert t e) = width e
  width (binary op d e) = max (width d) (width e)
  width (negation e) = width e
  width (both d e) = max (width d) (width e)
  width (either d e) = max (width d) (width e)
  width (choose c d e) = max (width c) (max (width d) (width e))
  width (call f es) = max (count es) (all_width es)
  width (virtual_call m e es) = max (suc (count es)) (max (width e) (all_width es))
  width (open_call f es) = max (count es) (all_width es)
  width (builtin b es) = max (count es) (all_width es)
  width (new c) = 0
  width (step_local x c) = 0
  width (step_field f c e) = width e
  width (compound op f e d) = max (width e) (width d)

  pub all_width : Exprs → ℕ
  all_width no_exprs = 0
  all_width (expr_and e es) = max (width e) (all_width es)

abbrev mutual
  pub stmt_width : Stmt → ℕ
  stmt_width (block ss) = stmts_width ss
  stmt_width (run e) = width e
  stmt_width (if_else e ss ts) = max (width e) (max (stmts_width ss) (stmts_width ts))
  stmt_width (while_do e ss) = max (width e) (stmts_width ss)
  stmt_width (do_while ss e) = max (width e) (stmts_width ss)
  stmt_width (for_do e s ss) = max (width e) (max (stmt_width s) (stmts_width ss))
  stmt_width break = 0
  stmt_width continue = 0
  stmt_width return_nothing = 0
  stmt_width (return e) = width e
  stmt_width (make x) = 0

  pub stmts_width : Stmts → ℕ
  stmts_width no_stmts = 0
  stmts_width (stmt_and s ss) = max (suc (count_stmts ss)) (max (stmt_width s) (stmts_width ss))
