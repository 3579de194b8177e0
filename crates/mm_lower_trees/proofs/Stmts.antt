-- The code of statements, one after another, and of the steps of loops.
use Rattle.std.proofs.Common.{◌≡◌, ℕ, suc, ◌+◌, ◌^◌, ◌<◌, ◌≤◌, List, ◌∷◌, length, get_or, drop, refl, sym, ap, ◌∙◌, subst, arith}
use Rattle.std.specs.Prelude.{Bool, if◌then◌else◌}
use Rattle.std.proofs.Math.Seq.{drop-cons}
use Rattle.std.proofs.lemmas.List.{drop_all}
use Rattle.mm_core.specs.declared.tree.CoreStmt.{CoreStmt}
use Rattle.mm_core.specs.Tree.{Stmt, block, run, if_else, while_do, do_while, for_do, break, continue, return_nothing, return, make, no_stmts, stmt_and}
use Rattle.mm_core.specs.View.{stmt_view, stmts_view}
use Rattle.mm_c.specs.Tree.{Code, done, forever, just, ◌⨾◌}
use Rattle.mm_c.proofs.Views.{⨾-assoc, ⨾-done}
use Rattle.mm_simulate.specs.Lowered.{reach_stmt, reach_stmts, block_of, flagged, step_in, looped}
use Rattle.mm_lower_trees.specs.declared.scope.Scope.{Scope}
use Rattle.mm_lower_trees.specs.Scopes.{stmt_in, stmts_in, StmtIsIn, StmtsAreIn}
use Rattle.mm_lower_trees.specs.Steps.{is_nothing, is_run}
use Rattle.mm_lower_trees.proofs.Sizes.{depth_stmt, depth_stmts}

-- the first i are done
pub record SoFar (s : Scope) (t : ℕ) (old : Code) (ss : List CoreStmt) (i : ℕ) (xs : Code) : Type 0 where
  pub code : xs ⨾ stmts_in s t (stmts_view (drop i ss)) ≡ old ⨾ stmts_in s t (stmts_view ss)
  pub lowered : StmtsAreIn s (stmts_view (drop i ss))
  pub few : reach_stmts (stmts_view (drop i ss)) ≤ reach_stmts (stmts_view ss)
  pub shallow : depth_stmts (stmts_view (drop i ss)) ≤ depth_stmts (stmts_view ss)

pub start : (s : Scope) (t : ℕ) (old : Code) (ss : List CoreStmt) → StmtsAreIn s (stmts_view ss) → SoFar s t old ss 0 old
start s t old ss low = record { code = refl; lowered = low; few = omega arith; shallow = omega arith }

module _ (s : Scope) (t : ℕ) (old : Code) (ss : List CoreStmt) (i : ℕ) (x : CoreStmt) (code : Code) (is : x ≡ get_or ss i x) (low : i < length ss) (so : SoFar s t old ss i code) where
  split : drop i ss ≡ x ∷ drop (suc i) ss
  split = drop-cons ss i x low ∙ ap (λ y. y ∷ drop (suc i) ss) (sym is)

  item_lowered : StmtsAreIn s (stmts_view (x ∷ drop (suc i) ss))
  item_lowered = subst (λ l. StmtsAreIn s (stmts_view l)) split so.lowered

  item_few : reach_stmts (stmts_view (x ∷ drop (suc i) ss)) ≤ reach_stmts (stmts_view ss)
  item_few = subst (λ l. reach_stmts (stmts_view l) ≤ reach_stmts (stmts_view ss)) split so.few

  item_shallow : depth_stmts (stmts_view (x ∷ drop (suc i) ss)) ≤ depth_stmts (stmts_view ss)
  item_shallow = subst (λ l. depth_stmts (stmts_view l) ≤ depth_stmts (stmts_view ss)) split so.shallow

  pub item_depth : depth_stmt (stmt_view x) < depth_stmts (stmts_view ss)
  item_depth = let h = item_shallow in omega (arith, h)

  pub item : t + reach_stmts (stmts_view ss) < 2 ^ 32 → StmtIsIn s (stmt_view x) × (t + reach_stmt (stmt_view x) < 2 ^ 32)
  item few = (item_lowered.0, let h = item_few in omega (arith, h, few))

  pub next : (code' : Code) → code' ≡ code ⨾ stmt_in s t (stmt_view x) → SoFar s t old ss (i + 1) code'
  next code' more =
      let one : suc i ≡ i + 1 = omega arith in
      subst (λ n. SoFar s t old ss n code') one (record {
        code = ap (λ c. c ⨾ stmts_in s t (stmts_view (drop (suc i) ss))) more ∙ (⨾-assoc code (stmt_in s t (stmt_view x)) (stmts_in s t (stmts_view (drop (suc i) ss))) ∙ (ap (λ l. code ⨾ stmts_in s t (stmts_view l)) (sym split) ∙ so.code));
        lowered = item_lowered.1;
        few = let h = item_few in omega (arith, h);
        shallow = let h = item_shallow in omega (arith, h);
      })

pub end : (s : Scope) (t : ℕ) (old : Code) (ss : List CoreStmt) (i : ℕ) (code : Code) → length ss ≤ i → SoFar s t old ss i code → code ≡ old ⨾ stmts_in s t (stmts_view ss)
end s t old ss i code past so = sym (⨾-done code) ∙ (ap (λ l. code ⨾ stmts_in s t (stmts_view l)) (sym (drop_all i ss past)) ∙ so.code)

-- ---- steps

-- a `for` by its step
pub looped_by : (t : ℕ) (s : Stmt) (step later plain : Code) → looped t s step later plain ≡ (if is_nothing s then just (forever (block_of plain)) else flagged t (step_in t s step) later)
looped_by t (block no_stmts) step later plain = refl
looped_by t (block (stmt_and s ss)) step later plain = refl
looped_by t (run e) step later plain = refl
looped_by t (if_else e ss ts) step later plain = refl
looped_by t (while_do e ss) step later plain = refl
looped_by t (do_while ss e) step later plain = refl
looped_by t (for_do e s ss) step later plain = refl
looped_by t break step later plain = refl
looped_by t continue step later plain = refl
looped_by t return_nothing step later plain = refl
looped_by t (return e) step later plain = refl
looped_by t (make x) step later plain = refl

-- what stands before a step, and then the step
pub step_before : (t : ℕ) (s : Stmt) (code : Code) → step_in t s done ⨾ code ≡ step_in t s code
step_before t (block ss) code = refl
step_before t (run e) code = refl
step_before t (if_else e ss ts) code = refl
step_before t (while_do e ss) code = refl
step_before t (do_while ss e) code = refl
step_before t (for_do e s ss) code = refl
step_before t break code = refl
step_before t continue code = refl
step_before t return_nothing code = refl
step_before t (return e) code = refl
step_before t (make x) code = refl

-- what stands before a step, by whether it is an expression
pub step_by : (t : ℕ) (s : Stmt) (b : Bool) → b ≡ is_run s → step_in t s done ≡ (if b then done else step_in t (block no_stmts) done)
step_by t (block ss) b e = rw e refl
step_by t (run d) b e = rw e refl
step_by t (if_else d ss ts) b e = rw e refl
step_by t (while_do d ss) b e = rw e refl
step_by t (do_while ss d) b e = rw e refl
step_by t (for_do d s ss) b e = rw e refl
step_by t break b e = rw e refl
step_by t continue b e = rw e refl
step_by t return_nothing b e = rw e refl
step_by t (return d) b e = rw e refl
step_by t (make x) b e = rw e refl
