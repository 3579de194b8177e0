-- Trees with other numbers for classes and functions; fields, methods, locals and subobjects keep
-- theirs. (Own.)
use Rattle.std.specs.Prelude.{ℕ}
use Rattle.mm_classes.specs.declared.class.Ty.{Ty}
use Rattle.mm_classes.specs.declared.class.Ty.TheVariants as ty
use Rattle.mm_core.specs.Tree.{Expr, int, unsigned, bool, null, local, set_local, field, set_field, not_null, move, convert, binary, negation, both, either, choose, call, virtual_call, open_call, builtin, new, step_local, step_field, compound, Exprs, no_exprs, expr_and, Stmt, block, run, if_else, while_do, do_while, for_do, break, continue, return_nothing, return, make, Stmts, no_stmts, stmt_and}

abbrev pub renamed_type : (ℕ → ℕ) → Ty → Ty
renamed_type r ty.Void = ty.Void
renamed_type r ty.Bool = ty.Bool
renamed_type r ty.Int = ty.Int
renamed_type r ty.Unsigned = ty.Unsigned
renamed_type r (ty.Ptr c) = ty.Ptr (r c)
renamed_type r (ty.Ref c) = ty.Ref (r c)

module _ (r f : ℕ → ℕ) where
  abbrev mutual
    pub renamed : Expr → Expr
    renamed (int z) = int z
    renamed (unsigned n) = unsigned n
    renamed (bool b) = bool b
    renamed (null c) = null (r c)
    renamed (local x) = local x
    renamed (set_local x e) = set_local x (renamed e)
    renamed (field k e) = field k (renamed e)
    renamed (set_field k e d) = set_field k (renamed e) (renamed d)
    renamed (not_null e) = not_null (renamed e)
    renamed (move c n e) = move (r c) n (renamed e)
    renamed (convert t e) = convert t (renamed e)
    renamed (binary op d e) = binary op (renamed d) (renamed e)
    renamed (negation e) = negation (renamed e)
    renamed (both d e) = both (renamed d) (renamed e)
    renamed (either d e) = either (renamed d) (renamed e)
    renamed (choose c d e) = choose (renamed c) (renamed d) (renamed e)
    renamed (call k es) = call (f k) (all_renamed es)
    renamed (virtual_call m e es) = virtual_call m (renamed e) (all_renamed es)
    renamed (open_call k es) = open_call (f k) (all_renamed es)
    renamed (builtin b es) = builtin b (all_renamed es)
    renamed (new c) = new (r c)
    renamed (step_local x c) = step_local x c
    renamed (step_field k c e) = step_field k c (renamed e)
    renamed (compound op k e d) = compound op k (renamed e) (renamed d)

    pub all_renamed : Exprs → Exprs
    all_renamed no_exprs = no_exprs
    all_renamed (expr_and e es) = expr_and (renamed e) (all_renamed es)

  abbrev mutual
    pub renamed_stmt : Stmt → Stmt
    renamed_stmt (block ss) = block (renamed_stmts ss)
    renamed_stmt (run e) = run (renamed e)
    renamed_stmt (if_else e ss ts) = if_else (renamed e) (renamed_stmts ss) (renamed_stmts ts)
    renamed_stmt (while_do e ss) = while_do (renamed e) (renamed_stmts ss)
    renamed_stmt (do_while ss e) = do_while (renamed_stmts ss) (renamed e)
    renamed_stmt (for_do e st ss) = for_do (renamed e) (renamed_stmt st) (renamed_stmts ss)
    renamed_stmt break = break
    renamed_stmt continue = continue
    renamed_stmt return_nothing = return_nothing
    renamed_stmt (return e) = return (renamed e)
    renamed_stmt (make x) = make x

    pub renamed_stmts : Stmts → Stmts
    renamed_stmts no_stmts = no_stmts
    renamed_stmts (stmt_and st ss) = stmt_and (renamed_stmt st) (renamed_stmts ss)
