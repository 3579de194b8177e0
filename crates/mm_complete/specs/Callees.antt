-- The functions that a body calls, by their numbers and in the order of its text. (ISO/IEC
-- 14882:1998, 3.2/2.) What a virtual call calls is found by its object.
use Rattle.std.specs.Prelude.{ℕ, List, [], ◌∷◌, ◌++◌, Option, Some, None}
use Rattle.std.specs.List.{flat_map}
use Rattle.mm_core.specs.Tree.{Expr, int, unsigned, bool, null, local, set_local, field, set_field, not_null, move, convert, binary, negation, both, either, choose, call, virtual_call, open_call, builtin, new, step_local, step_field, compound, Exprs, no_exprs, expr_and, Stmt, block, run, if_else, while_do, do_while, for_do, break, continue, return_nothing, return, make, Stmts, no_stmts, stmt_and, Function}

abbrev mutual
  pub callees : Expr → List ℕ
  callees (int z) = []
  callees (unsigned n) = []
  callees (bool b) = []
  callees (null c) = []
  callees (local x) = []
  callees (set_local x e) = callees e
  callees (field f e) = callees e
  callees (set_field f e d) = callees e ++ callees d
  callees (not_null e) = callees e
  callees (move c n e) = callees e
  callees (convert t e) = callees e
  callees (binary op d e) = callees d ++ callees e
  callees (negation e) = callees e
  callees (both d e) = callees d ++ callees e
  callees (either d e) = callees d ++ callees e
  callees (choose c d e) = callees c ++ (callees d ++ callees e)
  callees (call f es) = f ∷ all_callees es
  callees (virtual_call m e es) = callees e ++ all_callees es
  callees (open_call f es) = f ∷ all_callees es
  callees (builtin b es) = all_callees es
  callees (new c) = []
  callees (step_local x c) = []
  callees (step_field f c e) = callees e
  callees (compound op f e d) = callees e ++ callees d

  pub all_callees : Exprs → List ℕ
  all_callees no_exprs = []
  all_callees (expr_and e es) = callees e ++ all_callees es

abbrev mutual
  pub stmt_callees : Stmt → List ℕ
  stmt_callees (block ss) = stmts_callees ss
  stmt_callees (run e) = callees e
  stmt_callees (if_else e ss ts) = callees e ++ (stmts_callees ss ++ stmts_callees ts)
  stmt_callees (while_do e ss) = callees e ++ stmts_callees ss
  stmt_callees (do_while ss e) = stmts_callees ss ++ callees e
  stmt_callees (for_do e s ss) = callees e ++ (stmt_callees s ++ stmts_callees ss)
  stmt_callees break = []
  stmt_callees continue = []
  stmt_callees return_nothing = []
  stmt_callees (return e) = callees e
  stmt_callees (make x) = []

  pub stmts_callees : Stmts → List ℕ
  stmts_callees no_stmts = []
  stmts_callees (stmt_and s ss) = stmt_callees s ++ stmts_callees ss

abbrev pub body_callees : Option Stmt → List ℕ
body_callees None = []
body_callees (Some s) = stmt_callees s

-- the functions that any of these call
abbrev pub called_by : List Function → List ℕ
called_by = flat_map (λ (f : Function). body_callees f.body)
