-- The code of every statement keeps C's rules, wherever its names are declared.
use Rattle.std.proofs.Common.{◌≡◌, ◌≢◌, ℕ, suc, ◌+◌, ◌<◌, ◌≤◌, List, ◌++◌, Some, None, refl, ap, ◌∙◌, subst, arith}
use Rattle.std.specs.Prelude.{Bool, true, false, IsTrue}
use Rattle.mm_classes.specs.declared.class.Ty.{Ty}
use Rattle.mm_classes.specs.declared.class.Ty.TheVariants as ty
use Rattle.mm_c.specs.declared.tree.CKind.TheVariants as kind
use Rattle.mm_c.specs.declared.tree.CAtom.TheVariants.{Name}
use Rattle.mm_c.specs.declared.tree.CExpr.TheVariants.{Atom}
use Rattle.mm_c.specs.Tree as c
use Rattle.mm_c.specs.Tree.{Code, done, ◌⨾◌, just}
use Rattle.mm_c.specs.WellFormed.{Here, fits}
use Rattle.mm_c.proofs.Fits.{Fit, fit_done, fit_then, fit_block, fit_set, fit_forever, fit_return}
use Rattle.mm_core.specs.Tree.{Stmt, block, run, if_else, while_do, do_while, for_do, break, continue, return_nothing, return, Stmts, no_stmts, stmt_and}
use Rattle.mm_core.specs.Valid.{Around, type_of, sets, IsValidStmt, AreValidStmts}
use Rattle.mm_agree.specs.Agree.{Layout, kind_of}
use Rattle.mm_simulate.specs.Lowered.{plain, i_, of_, set, only_if, break_unless, flagged, kind_of_result, lowered, lowered_stmt, lowered_stmts, reach_stmt, reach_stmts, IsLoweredStmt, AreLoweredStmts, step_in, looped, block_of}
use Rattle.mm_simulate.proofs.Nodes.{suits_same}
use Rattle.mm_simulate.proofs.Fitting.{Declares, if_fits, only_fits, of_fits, expr_fits, reach_some, effect_fits}

module _ (a : Around) (l : Layout) (name : ℕ → List ℕ) (n : ℕ) (result : Ty) where
  -- where a statement stands
  pub record Stands (h : Here) (in_loop : Bool) : Type 0 where
    pub declares : Declares h a l name n
    pub plain : h.inside_inline ≡ false
    pub gives : h.result ≡ kind_of_result result
    pub loop : IsTrue in_loop → h.in_loop ≡ true

  in_loop : (h : Here) (b : Bool) → Stands h b → Stands (record h { in_loop = true }) true
  in_loop h b s = record {
    declares = record { ints = s.declares.ints; words = s.declares.words; pointers = s.declares.pointers; locals = s.declares.locals; put = s.declares.put; get = s.declares.get; more = s.declares.more; trap = s.declares.trap; functions = s.declares.functions };
    plain = s.plain;
    gives = s.gives;
    loop = λ t. refl;
  }

  module _ (h : Here) where
    fit_break : h.in_loop ≡ true → Fit h (just c.break)
    fit_break e = record { by = rw e refl }

    fit_continue : h.in_loop ≡ true → Fit h (just c.continue)
    fit_continue e = record { by = rw e refl }

    fit_leave : h.result ≡ None → Fit h (just c.leave)
    fit_leave e = record { by = rw e refl }

    fit_unless : (b : Bool) → Stands h b → h.in_loop ≡ true → (t : ℕ) → t < n → Fit h (break_unless (i_ t))
    fit_unless b s e t low = if_fits h (i_ t) done (just c.break) (s.declares.ints t low) (fit_done h) (fit_break e)

    fit_flag : (b : Bool) → Stands h b → (t i : ℕ) → t < n → Fit h (set (i_ t) (Atom (plain 1)))
    fit_flag b s t i low = fit_set h (i_ t) kind.Int (Atom (plain 1)) (s.declares.ints t low) refl

  fit_flagged : (h : Here) (b : Bool) → Stands h b → (t : ℕ) (later body : Code) → t < n → Fit (record h { in_loop = true }) later → Fit (record h { in_loop = true }) body → Fit h (flagged t later body)
  fit_flagged h b s t later body low f k =
      let inner = record h { in_loop = true } in
      fit_then h (set (i_ t) (Atom (plain 0))) _ (fit_set h (i_ t) kind.Int (Atom (plain 0)) (s.declares.ints t low) refl)
      (fit_forever h _ s.plain (fit_block inner _ (fit_then inner (only_if (i_ t) later) _ (only_fits inner (i_ t) later (s.declares.ints t low) f) (fit_then inner (set (i_ t) (Atom (plain 1))) body (fit_flag inner true (in_loop h b s) t 0 low) k))))

  fit_step : (h : Here) (b : Bool) → Stands h b → (t : ℕ) → t < n → (s : Stmt) (xs : Code) → Fit h xs → Fit h (step_in t s xs)
  fit_step h b st t low (run e) xs f = f
  fit_step h b st t low s xs f = fit_then h (set (i_ t) (Atom (plain 0))) xs (fit_set h (i_ t) kind.Int (Atom (plain 0)) (st.declares.ints t low) refl) f

  fit_looped : (h : Here) (b : Bool) → Stands h b → (t : ℕ) (s : Stmt) (step later plain' : Code) → t < n → Fit (record h { in_loop = true }) step → Fit (record h { in_loop = true }) later → Fit (record h { in_loop = true }) plain' → Fit h (looped t s step later plain')
  fit_looped h b st t (block no_stmts) step later plain' low f k q = fit_forever h (block_of plain') st.plain (fit_block (record h { in_loop = true }) plain' q)
  fit_looped h b st t s step later plain' low f k q = fit_flagged h b st t (step_in t s step) later low (fit_step (record h { in_loop = true }) true (in_loop h b st) t low s step f) k

  some_result : (t : Ty) → t ≢ ty.Void → kind_of_result t ≡ Some (kind_of t)
  some_result ty.Void e = absurd (e refl)
  some_result ty.Bool e = refl
  some_result ty.Int e = refl
  some_result ty.Unsigned e = refl
  some_result (ty.Ptr d) e = refl
  some_result (ty.Ref d) e = refl

  mutual
    pub stmt_fits : (s : Stmt) (h : Here) (b : Bool) (known : List ℕ) (t : ℕ) → Stands h b → IsLoweredStmt a s → IsValidStmt a result b known s → t + reach_stmt s ≤ n → Fit h (lowered_stmt a l name t s)
    stmt_fits (block ss) h b known t st low valid le = stmts_fit ss h b known t st low valid le
    stmt_fits (run e) h b known t st low valid le = effect_fits h a l name n st.declares known e t low valid le
    stmt_fits (if_else e ss ts) h b known t st low valid le =
        fit_then h (lowered a l name t e) _ (expr_fits h a l name n st.declares known e t low.0 valid.0.1 (omega arith))
        (if_fits h (i_ t) _ _ (st.declares.ints t (omega (arith, reach_some e))) (stmts_fit ss h b known t st low.1 valid.1 (omega arith)) (stmts_fit ts h b known t st low.2 valid.2 (omega arith)))
    stmt_fits (while_do e ss) h b known t st low valid le =
        let inner = record h { in_loop = true } in
        let si = in_loop h b st in
        fit_forever h _ st.plain (fit_block inner _ (fit_then inner (lowered a l name t e) _ (expr_fits inner a l name n si.declares known e t low.0 valid.0.1 (omega arith))
        (fit_then inner (break_unless (i_ t)) _ (fit_unless inner true si refl t (omega (arith, reach_some e))) (stmts_fit ss inner true known t si low.1 valid.1 (omega arith)))))
    stmt_fits (do_while ss e) h b known t st low valid le =
        let inner = record h { in_loop = true } in
        let si = in_loop h b st in
        fit_flagged h b st t _ _ (omega arith)
        (fit_then inner (lowered a l name (suc t) e) _ (expr_fits inner a l name n si.declares known e (suc t) low.1 valid.1.1 (omega arith)) (fit_unless inner true si refl (suc t) (omega (arith, reach_some e))))
        (stmts_fit ss inner true known (suc t) si low.0 valid.0 (omega arith))
    stmt_fits (for_do e s ss) h b known t st low valid le =
        let inner = record h { in_loop = true } in
        let si = in_loop h b st in
        fit_looped h b st t s _ _ _ (omega arith)
        (stmt_fits s inner true known (suc t) si low.1 valid.2 (omega arith))
        (fit_then inner (lowered a l name (suc t) e) _ (expr_fits inner a l name n si.declares known e (suc t) low.0 valid.0.1 (omega arith))
        (fit_then inner (break_unless (i_ (suc t))) _ (fit_unless inner true si refl (suc t) (omega (arith, reach_some e))) (stmts_fit ss inner true known (suc t) si low.2 valid.3 (omega arith))))
        (fit_then inner (lowered a l name t e) _ (expr_fits inner a l name n si.declares known e t low.0 valid.0.1 (omega arith))
        (fit_then inner (break_unless (i_ t)) _ (fit_unless inner true si refl t (omega (arith, reach_some e))) (stmts_fit ss inner true known t si low.2 valid.3 (omega arith))))
    stmt_fits break h b known t st low valid le = fit_break h (st.loop valid)
    stmt_fits continue h b known t st low valid le = fit_continue h (st.loop valid)
    stmt_fits return_nothing h b known t st low valid le = fit_leave h (st.gives ∙ ap kind_of_result valid)
    stmt_fits (return e) h b known t st low valid le =
        let same = (suits_same (type_of a e) result valid.0).kinds in
        fit_then h (lowered a l name t e) _ (expr_fits h a l name n st.declares known e t low valid.1 le)
        (fit_return h (kind_of result) (Name (of_ (type_of a e) t)) (st.gives ∙ some_result result valid.0.0) (subst (λ k. fits h k (Name (of_ (type_of a e) t)) ≡ true) same (of_fits h a l name n st.declares (type_of a e) t (omega (arith, reach_some e)))))
    stmt_fits other h b known t st low valid le = absurd low

    pub stmts_fit : (ss : Stmts) (h : Here) (b : Bool) (known : List ℕ) (t : ℕ) → Stands h b → AreLoweredStmts a ss → AreValidStmts a result b known ss → t + reach_stmts ss ≤ n → Fit h (lowered_stmts a l name t ss)
    stmts_fit no_stmts h b known t st low valid le = fit_done h
    stmts_fit (stmt_and s ss) h b known t st low valid le = fit_then h (lowered_stmt a l name t s) _ (stmt_fits s h b known t st low.0 valid.0 (omega arith)) (stmts_fit ss h b (sets s ++ known) t st low.1 valid.1 (omega arith))
