-- The code of arguments, one after another.
use Rattle.std.proofs.Common.{◌≡◌, ℕ, suc, ◌+◌, ◌^◌, ◌<◌, ◌≤◌, List, [], ◌∷◌, ◌++◌, length, get_or, drop, refl, sym, ap, ◌∙◌, append_assoc, subst, arith}
use Rattle.std.proofs.Math.Seq.{drop-cons}
use Rattle.std.proofs.lemmas.List.{append-nil, drop_all}
use Rattle.mm_classes.specs.declared.class.Ty.{Ty}
use Rattle.mm_core.specs.declared.tree.CoreExpr.{CoreExpr}
use Rattle.mm_core.specs.View.{expr_view, exprs_view}
use Rattle.mm_c.specs.declared.tree.CAtom.{CAtom}
use Rattle.mm_c.specs.declared.tree.CAtom.TheVariants.{Name}
use Rattle.mm_c.specs.Tree.{Code, ◌⨾◌}
use Rattle.mm_c.proofs.Views.{⨾-assoc, ⨾-done}
use Rattle.mm_simulate.specs.Lowered.{of_, reach, reach_all}
use Rattle.mm_lower_trees.specs.declared.scope.Scope.{Scope}
use Rattle.mm_lower_trees.specs.Scopes.{type_in, code_in, all_in, atoms_in, IsIn, AreIn}
use Rattle.mm_lower_trees.proofs.Sizes.{depth, depth_all}

-- the first i are done, and at is free
pub record SoFar (s : Scope) (t : ℕ) (old : Code) (es : List CoreExpr) (i at : ℕ) (xs : Code) (ys : List CAtom) : Type 0 where
  pub code : xs ⨾ all_in s at (exprs_view (drop i es)) ≡ old ⨾ all_in s t (exprs_view es)
  pub atoms : ys ++ atoms_in s at (exprs_view (drop i es)) ≡ atoms_in s t (exprs_view es)
  pub lowered : AreIn s (exprs_view (drop i es))
  pub few : at + reach_all (exprs_view (drop i es)) ≤ t + reach_all (exprs_view es)
  pub shallow : depth_all (exprs_view (drop i es)) ≤ depth_all (exprs_view es)

pub start : (s : Scope) (t : ℕ) (old : Code) (es : List CoreExpr) → AreIn s (exprs_view es) → SoFar s t old es 0 t old []
start s t old es low = record { code = refl; atoms = refl; lowered = low; few = omega arith; shallow = omega arith }

module _ (s : Scope) (t : ℕ) (old : Code) (es : List CoreExpr) (i at : ℕ) (e : CoreExpr) (code : Code) (atoms : List CAtom) (is : e ≡ get_or es i e) (low : i < length es) (so : SoFar s t old es i at code atoms) where
  split : drop i es ≡ e ∷ drop (suc i) es
  split = drop-cons es i e low ∙ ap (λ x. x ∷ drop (suc i) es) (sym is)

  item_lowered : AreIn s (exprs_view (e ∷ drop (suc i) es))
  item_lowered = subst (λ l. AreIn s (exprs_view l)) split so.lowered

  item_few : at + reach_all (exprs_view (e ∷ drop (suc i) es)) ≤ t + reach_all (exprs_view es)
  item_few = subst (λ l. at + reach_all (exprs_view l) ≤ t + reach_all (exprs_view es)) split so.few

  item_shallow : depth_all (exprs_view (e ∷ drop (suc i) es)) ≤ depth_all (exprs_view es)
  item_shallow = subst (λ l. depth_all (exprs_view l) ≤ depth_all (exprs_view es)) split so.shallow

  pub item_depth : depth (expr_view e) < depth_all (exprs_view es)
  item_depth = let h = item_shallow in omega (arith, h)

  pub item : t + reach_all (exprs_view es) < 2 ^ 32 → IsIn s (expr_view e) × (at + reach (expr_view e) < 2 ^ 32)
  item few = (item_lowered.0, let h = item_few in omega (arith, h, few))

  pub next_few : t + reach_all (exprs_view es) < 2 ^ 32 → at + 1 < 2 ^ 32
  next_few few = let h = item_few in omega (arith, h, few)

  pub next : (code' : Code) → code' ≡ code ⨾ code_in s at (expr_view e) → SoFar s t old es (suc i) (at + 1) code' (atoms ++ Name (of_ (type_in s (expr_view e)) at) ∷ [])
  next code' more =
      let one : suc at ≡ at + 1 = omega arith in
      subst (λ n. SoFar s t old es (suc i) n code' (atoms ++ Name (of_ (type_in s (expr_view e)) at) ∷ [])) one (record {
        code = ap (λ c. c ⨾ all_in s (suc at) (exprs_view (drop (suc i) es))) more ∙ (⨾-assoc code (code_in s at (expr_view e)) (all_in s (suc at) (exprs_view (drop (suc i) es))) ∙ (ap (λ l. code ⨾ all_in s at (exprs_view l)) (sym split) ∙ so.code));
        atoms = append_assoc atoms (Name (of_ (type_in s (expr_view e)) at) ∷ []) (atoms_in s (suc at) (exprs_view (drop (suc i) es))) ∙ (ap (λ l. atoms ++ atoms_in s at (exprs_view l)) (sym split) ∙ so.atoms);
        lowered = item_lowered.1;
        few = let h = item_few in omega (arith, h);
        shallow = let h = item_shallow in omega (arith, h);
      })

  pub next_with : (code' : Code) (ys : List CAtom) (a : CAtom) (type : Ty) → code' ≡ code ⨾ code_in s at (expr_view e) → ys ≡ atoms ++ a ∷ [] → a ≡ Name (of_ type at) → type ≡ type_in s (expr_view e) → SoFar s t old es (i + 1) (at + 1) code' ys
  next_with code' ys a type more pushed atom typed =
      let one : suc i ≡ i + 1 = omega arith in
      let named = pushed ∙ ap (λ x. atoms ++ x ∷ []) (atom ∙ ap (λ u. Name (of_ u at)) typed) in
      subst (λ l. SoFar s t old es (i + 1) (at + 1) code' l) (sym named) (subst (λ n. SoFar s t old es n (at + 1) code' (atoms ++ Name (of_ (type_in s (expr_view e)) at) ∷ [])) one (next code' more))

module _ (s : Scope) (t : ℕ) (old : Code) (es : List CoreExpr) (i at : ℕ) (code : Code) (atoms : List CAtom) (past : length es ≤ i) (so : SoFar s t old es i at code atoms) where
  pub end_code : code ≡ old ⨾ all_in s t (exprs_view es)
  end_code = sym (⨾-done code) ∙ (ap (λ l. code ⨾ all_in s at (exprs_view l)) (sym (drop_all i es past)) ∙ so.code)

  pub end_atoms : atoms ≡ atoms_in s t (exprs_view es)
  end_atoms = sym (append-nil atoms) ∙ (ap (λ l. atoms ++ atoms_in s at (exprs_view l)) (sym (drop_all i es past)) ∙ so.atoms)
