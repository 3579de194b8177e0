-- Which temporaries are found in code.
use Rattle.std.proofs.Common.{◌≡◌, ℕ, suc, ◌+◌, ◌<◌, ◌≤◌, List, [], ◌∷◌, ◌++◌, length, get_or, drop, refl, sym, ap, ◌∙◌, subst, arith}
use Rattle.std.specs.Prelude.{max}
use Rattle.std.proofs.Math.Seq.{drop-cons}
use Rattle.std.proofs.lemmas.List.{drop_all}
use Rattle.mm_c.specs.declared.tree.CAtom.{CAtom}
use Rattle.mm_c.specs.declared.tree.CLocal.{CLocal}
use Rattle.mm_c.specs.declared.tree.CStmt.{CStmt}
use Rattle.mm_c.specs.declared.tree.CBlock.{CBlock}
use Rattle.mm_c.specs.Tree.{Stmt, if_only, if_else, forever, Block, block, Code, done, do_then}
use Rattle.mm_c.specs.View.{stmt_view, block_view, code_view}
use Rattle.mm_c.proofs.Views.{view-block}
use Rattle.mm_simulate.specs.Temporaries.{atom_names, atoms_names, stmt_names, names_in}
use Rattle.mm_lower.specs.Needed.{noted, noted_all}

pub noted_append : (ls : List CLocal) (xs ys : List (List ℕ)) → noted_all ls (xs ++ ys) ≡ noted_all (noted_all ls xs) ys
noted_append ls [] ys = refl
noted_append ls (x ∷ xs) ys = noted_append (noted ls x) xs ys

pub block_is : (b : CBlock) → block_view b ≡ block b.locals (code_view b.body)
block_is b = view-block b.locals b.body

pub ruleset noted_rules = (noted_append, block_is)

-- how deep code is: each part is less deep
abbrev mutual
  pub depth_one : Stmt → ℕ
  depth_one (if_only a b) = suc (depth_block b)
  depth_one (if_else a b c) = suc (max (depth_block b) (depth_block c))
  depth_one (forever b) = suc (depth_block b)
  depth_one other = 0

  pub depth_block : Block → ℕ
  depth_block (block xs code) = depth_code code

  pub depth_code : Code → ℕ
  depth_code done = 0
  depth_code (do_then s more) = suc (max (depth_one s) (depth_code more))

-- the names of the first i are noted
abbrev pub AtomsSoFar : List CLocal → List CAtom → ℕ → List CLocal → Type 0
AtomsSoFar old es i ls = noted_all ls (atoms_names (drop i es)) ≡ noted_all old (atoms_names es)

module _ (old : List CLocal) (es : List CAtom) (i : ℕ) (e : CAtom) (ls : List CLocal) (is : e ≡ get_or es i e) (low : i < length es) (so : AtomsSoFar old es i ls) where
  pub next_atom : (ls' : List CLocal) → ls' ≡ noted_all ls (atom_names e) → AtomsSoFar old es (i + 1) ls'
  next_atom ls' more =
      let one : suc i ≡ i + 1 = omega arith in
      let split : drop i es ≡ e ∷ drop (suc i) es = drop-cons es i e low ∙ ap (λ x. x ∷ drop (suc i) es) (sym is) in
      subst (λ n. AtomsSoFar old es n ls') one (ap (λ l. noted_all l (atoms_names (drop (suc i) es))) more ∙ (sym (noted_append ls (atom_names e) (atoms_names (drop (suc i) es))) ∙ (ap (λ l. noted_all ls (atoms_names l)) (sym split) ∙ so)))

pub end_atoms : (old : List CLocal) (es : List CAtom) (i : ℕ) (ls : List CLocal) → length es ≤ i → AtomsSoFar old es i ls → ls ≡ noted_all old (atoms_names es)
end_atoms old es i ls past so = ap (λ l. noted_all ls (atoms_names l)) (sym (drop_all i es past)) ∙ so

pub record SoFar (old : List CLocal) (ss : List CStmt) (i : ℕ) (ls : List CLocal) : Type 0 where
  pub names : noted_all ls (names_in (code_view (drop i ss))) ≡ noted_all old (names_in (code_view ss))
  pub shallow : depth_code (code_view (drop i ss)) ≤ depth_code (code_view ss)

pub start : (old : List CLocal) (ss : List CStmt) → SoFar old ss 0 old
start old ss = record { names = refl; shallow = omega arith }

module _ (old : List CLocal) (ss : List CStmt) (i : ℕ) (s : CStmt) (ls : List CLocal) (is : s ≡ get_or ss i s) (low : i < length ss) (so : SoFar old ss i ls) where
  split : drop i ss ≡ s ∷ drop (suc i) ss
  split = drop-cons ss i s low ∙ ap (λ x. x ∷ drop (suc i) ss) (sym is)

  item_shallow : depth_code (code_view (s ∷ drop (suc i) ss)) ≤ depth_code (code_view ss)
  item_shallow = subst (λ l. depth_code (code_view l) ≤ depth_code (code_view ss)) split so.shallow

  pub item_depth : depth_one (stmt_view s) < depth_code (code_view ss)
  item_depth = let h = item_shallow in omega (arith, h)

  pub next : (ls' : List CLocal) → ls' ≡ noted_all ls (stmt_names (stmt_view s)) → SoFar old ss (i + 1) ls'
  next ls' more =
      let one : suc i ≡ i + 1 = omega arith in
      subst (λ n. SoFar old ss n ls') one (record {
        names = ap (λ l. noted_all l (names_in (code_view (drop (suc i) ss)))) more ∙ (sym (noted_append ls (stmt_names (stmt_view s)) (names_in (code_view (drop (suc i) ss)))) ∙ (ap (λ l. noted_all ls (names_in (code_view l))) (sym split) ∙ so.names));
        shallow = let h = item_shallow in omega (arith, h);
      })

pub end : (old : List CLocal) (ss : List CStmt) (i : ℕ) (ls : List CLocal) → length ss ≤ i → SoFar old ss i ls → ls ≡ noted_all old (names_in (code_view ss))
end old ss i ls past so = ap (λ l. noted_all ls (names_in (code_view l))) (sym (drop_all i ss past)) ∙ so.names
