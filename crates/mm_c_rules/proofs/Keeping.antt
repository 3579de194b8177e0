-- What keeps the rules, part by part.
use Rattle.std.specs.Prelude.{Bool, true, false, not, ◌&&◌}
use Rattle.std.proofs.Common.{◌≡◌, ℕ, ◌+◌, ◌-◌, ◌<◌, List, [], ◌∷◌, ◌++◌, length, drop, get_or, refl, sym, ap, ◌∙◌}
use Rattle.std.proofs.lemmas.List.{drop_more}
use Rattle.mm_c.specs.declared.tree.CLocal.{CLocal}
use Rattle.mm_c.specs.declared.tree.CStmt.{CStmt}
use Rattle.mm_c.specs.Tree.{Stmt, assign, store, run, if_only, if_else, forever, break, continue, leave, return}
use Rattle.mm_c.specs.View.{stmt_view, block_view, code_view}
use Rattle.mm_c.specs.WellFormed.{Here, seeing, stmt_fits, stmt_breaks, block_breaks, code_breaks}
use Rattle.mm_c.specs.declared.tree.CAtom.{CAtom}
use Rattle.mm_c.specs.declared.tree.CBlock.{CBlock}
use Rattle.mm_c.specs.declared.tree.CStmt.TheVariants.{IfElse}
use Rattle.mm_c.proofs.Views.{view-block, view-IfElse}
use Rattle.mm_c_rules.specs.Keeps.{keeps, left_of}
use Rattle.mm_c_rules.specs.Places.{inner}

pub keeps-cons : (b : Bool) (xs : List Bool) → keeps (not b ∷ xs) ≡ (b && keeps xs)
keeps-cons true xs = refl
keeps-cons false xs = refl

pub keeps-append : (xs ys : List Bool) → keeps (xs ++ ys) ≡ (keeps xs && keeps ys)
keeps-append [] ys = refl
keeps-append (true ∷ xs) ys = refl
keeps-append (false ∷ xs) ys = keeps-append xs ys

-- what is left behind a list, and then behind another one
abbrev pub left_then : Bool → ℕ → List Bool → ℕ
left_then true n ys = left_of n ys
left_then false n ys = n

pub left-append : (n : ℕ) (xs ys : List Bool) → left_of n (xs ++ ys) ≡ left_then (keeps xs) (left_of n xs) ys
left-append n [] ys = refl
left-append n (true ∷ xs) ys = refl
left-append n (false ∷ xs) ys = left-append (n - 1) xs ys

pub left-cons : (n : ℕ) (b : Bool) (xs : List Bool) → left_of n (not b ∷ xs) ≡ left_then b (left_of n (not b ∷ [])) xs
left-cons n true xs = refl
left-cons n false xs = refl

-- a statement by itself, and those inside it
pub breaks_parts : (h : Here) (s : Stmt) → stmt_breaks h s ≡ not (stmt_fits h s) ∷ inner h s
breaks_parts h (assign x r) = refl
breaks_parts h (store c p a) = refl
breaks_parts h (run c) = refl
breaks_parts h (if_only a b) = refl
breaks_parts h (if_else a b c) = refl
breaks_parts h (forever b) = refl
breaks_parts h break = refl
breaks_parts h continue = refl
breaks_parts h leave = refl
breaks_parts h (return a) = refl

pub keeps_parts : (h : Here) (s : Stmt) → keeps (stmt_breaks h s) ≡ (stmt_fits h s && keeps (inner h s))
keeps_parts h s = ap keeps (breaks_parts h s) ∙ keeps-cons (stmt_fits h s) (inner h s)

pub left_parts : (h : Here) (s : Stmt) (n : ℕ) → left_of n (stmt_breaks h s) ≡ left_then (stmt_fits h s) (left_of n (not (stmt_fits h s) ∷ [])) (inner h s)
left_parts h s n = ap (left_of n) (breaks_parts h s) ∙ left-cons n (stmt_fits h s) (inner h s)

module _ (h : Here) where
  pub keeps-block : (xs : List CLocal) (ss : List CStmt) → keeps (block_breaks h (block_view (record { locals = xs; body = ss }))) ≡ keeps (code_breaks (seeing h xs) (code_view ss))
  keeps-block xs ss = ap (λ b. keeps (block_breaks h b)) (view-block xs ss)

  pub keeps-more : (ss : List CStmt) (i : ℕ) (d : CStmt) → i < length ss → d ≡ get_or ss i d → keeps (code_breaks h (code_view (drop i ss))) ≡ (keeps (stmt_breaks h (stmt_view d)) && keeps (code_breaks h (code_view (drop (i + 1) ss))))
  keeps-more ss i d l at =
      ap (λ x. keeps (code_breaks h (code_view x))) (drop_more ss i d l)
      ∙ keeps-append (stmt_breaks h (stmt_view (get_or ss i d))) (code_breaks h (code_view (drop (i + 1) ss)))
      ∙ ap (λ x. keeps (stmt_breaks h (stmt_view x)) && keeps (code_breaks h (code_view (drop (i + 1) ss)))) (sym at)

  pub left-block : (n : ℕ) (xs : List CLocal) (ss : List CStmt) → left_of n (block_breaks h (block_view (record { locals = xs; body = ss }))) ≡ left_of n (code_breaks (seeing h xs) (code_view ss))
  left-block n xs ss = ap (λ b. left_of n (block_breaks h b)) (view-block xs ss)

  pub left-more : (n : ℕ) (ss : List CStmt) (i : ℕ) (d : CStmt) → i < length ss → d ≡ get_or ss i d → left_of n (code_breaks h (code_view (drop i ss))) ≡ left_then (keeps (stmt_breaks h (stmt_view d))) (left_of n (stmt_breaks h (stmt_view d))) (code_breaks h (code_view (drop (i + 1) ss)))
  left-more n ss i d l at =
      ap (λ x. left_of n (code_breaks h (code_view x))) (drop_more ss i d l)
      ∙ left-append n (stmt_breaks h (stmt_view (get_or ss i d))) (code_breaks h (code_view (drop (i + 1) ss)))
      ∙ ap (λ x. left_then (keeps (stmt_breaks h (stmt_view x))) (left_of n (stmt_breaks h (stmt_view x))) (code_breaks h (code_view (drop (i + 1) ss)))) (sym at)

  -- the first of some statements breaks a rule, or it doesn't
  pub left-broken : (n : ℕ) (ss : List CStmt) (i : ℕ) (d : CStmt) → i < length ss → d ≡ get_or ss i d → keeps (stmt_breaks h (stmt_view d)) ≡ false → left_of n (code_breaks h (code_view (drop i ss))) ≡ left_of n (stmt_breaks h (stmt_view d))
  left-broken n ss i d l at k = left-more n ss i d l at ∙ ap (λ b. left_then b (left_of n (stmt_breaks h (stmt_view d))) (code_breaks h (code_view (drop (i + 1) ss)))) k

  pub left-kept : (n : ℕ) (ss : List CStmt) (i : ℕ) (d : CStmt) → i < length ss → d ≡ get_or ss i d → keeps (stmt_breaks h (stmt_view d)) ≡ true → left_of n (code_breaks h (code_view (drop i ss))) ≡ left_of (left_of n (stmt_breaks h (stmt_view d))) (code_breaks h (code_view (drop (i + 1) ss)))
  left-kept n ss i d l at k = left-more n ss i d l at ∙ ap (λ b. left_then b (left_of n (stmt_breaks h (stmt_view d))) (code_breaks h (code_view (drop (i + 1) ss)))) k

  pub keeps-kept : (ss : List CStmt) (i : ℕ) (d : CStmt) → i < length ss → d ≡ get_or ss i d → keeps (stmt_breaks h (stmt_view d)) ≡ true → keeps (code_breaks h (code_view (drop i ss))) ≡ keeps (code_breaks h (code_view (drop (i + 1) ss)))
  keeps-kept ss i d l at k = keeps-more ss i d l at ∙ ap (λ b. b && keeps (code_breaks h (code_view (drop (i + 1) ss)))) k

-- both blocks of an `if` with an `else`
module _ (h : Here) (a : CAtom) (b d : CBlock) where
  both : inner h (stmt_view (IfElse a b d)) ≡ block_breaks h (block_view b) ++ block_breaks h (block_view d)
  both = ap (inner h) (view-IfElse a b d)

  pub else_broken : (n : ℕ) → keeps (block_breaks h (block_view b)) ≡ false → left_of n (inner h (stmt_view (IfElse a b d))) ≡ left_of n (block_breaks h (block_view b))
  else_broken n k = ap (left_of n) both ∙ left-append n (block_breaks h (block_view b)) (block_breaks h (block_view d)) ∙ ap (λ y. left_then y (left_of n (block_breaks h (block_view b))) (block_breaks h (block_view d))) k

  pub else_left : (n : ℕ) → keeps (block_breaks h (block_view b)) ≡ true → left_of n (inner h (stmt_view (IfElse a b d))) ≡ left_of (left_of n (block_breaks h (block_view b))) (block_breaks h (block_view d))
  else_left n k = ap (left_of n) both ∙ left-append n (block_breaks h (block_view b)) (block_breaks h (block_view d)) ∙ ap (λ y. left_then y (left_of n (block_breaks h (block_view b))) (block_breaks h (block_view d))) k

  pub else_keeps : keeps (block_breaks h (block_view b)) ≡ true → keeps (inner h (stmt_view (IfElse a b d))) ≡ keeps (block_breaks h (block_view d))
  else_keeps k = ap keeps both ∙ keeps-append (block_breaks h (block_view b)) (block_breaks h (block_view d)) ∙ ap (λ y. y && keeps (block_breaks h (block_view d))) k
