-- What a walk over statements comes to, with numbers for names.
use Rattle.std.proofs.Common.{◌≡◌, ℕ, ◌+◌, ◌<◌, List, [], ◌∷◌, ◌++◌, length, take, get_or, refl, sym, ap, ◌∙◌}
use Rattle.std.proofs.lemmas.List.{take_more}
use Rattle.mm_c.specs.declared.tree.CLocal.{CLocal}
use Rattle.mm_c.specs.declared.tree.CStmt.{CStmt}
use Rattle.mm_c.specs.declared.tree.CBlock.{CBlock}
use Rattle.mm_c.specs.View.{stmt_view, block_view, code_view}
use Rattle.mm_c.proofs.Views.{view-Assign, view-Store, view-Call, view-If, view-IfElse, view-While, view-Break, view-Continue, view-Return, view-ReturnValue, view-block}
use Rattle.mm_c_placed.specs.Tree.{Code, do_then, ◌⨾◌, just}
use Rattle.mm_c_placed.specs.declared.tree.PlacedStmt.{PlacedStmt}
use Rattle.mm_c_placed.specs.View as p
use Rattle.mm_c_placed.proofs.Views.{placed_rules, ⨾-assoc}
use Rattle.mm_c_places.specs.Places.{Places, Numbers}
use Rattle.mm_c_places.specs.Placed.{with_locals, placed_stmt, placed_block, placed_code}

pub view-append : (as_ bs : List PlacedStmt) → p.code_view (as_ ++ bs) ≡ p.code_view as_ ⨾ p.code_view bs
view-append [] bs = refl
view-append (x ∷ as_) bs = ap (do_then (p.stmt_view x)) (view-append as_ bs)

module _ (ns : Numbers) (ps : Places) where
  code-append : (ss : List CStmt) (s : CStmt) → placed_code ns ps (code_view (ss ++ s ∷ [])) ≡ placed_code ns ps (code_view ss) ⨾ just (placed_stmt ns ps (stmt_view s))
  code-append [] s = refl
  code-append (x ∷ ss) s = ap (do_then (placed_stmt ns ps (stmt_view x))) (code-append ss s)

  -- one statement more
  pub code-more : (ss : List CStmt) (i : ℕ) (d : CStmt) → i < length ss → d ≡ get_or ss i d → placed_code ns ps (code_view (take (i + 1) ss)) ≡ placed_code ns ps (code_view (take i ss)) ⨾ just (placed_stmt ns ps (stmt_view d))
  code-more ss i d lt at = ap (λ l. placed_code ns ps (code_view l)) (take_more ss i d lt) ∙ code-append (take i ss) (get_or ss i d) ∙ ap (λ s. placed_code ns ps (code_view (take i ss)) ⨾ just (placed_stmt ns ps (stmt_view s))) (sym at)

  pub placed-block : (xs : List CLocal) (ss : List CStmt) → placed_block ns ps (block_view (record { locals = xs; body = ss })) ≡ with_locals ns ps xs (placed_code ns ps (code_view ss))
  placed-block xs ss = ap (placed_block ns ps) (view-block xs ss)

  pub block_placed : (b : CBlock) (xs : List CLocal) (ss : List CStmt) (start code new : List PlacedStmt) → xs ≡ b.locals → ss ≡ b.body → new ≡ start ++ code → p.code_view code ≡ placed_code ns ps (code_view ss)
      → ((more : Code) → p.code_view start ⨾ more ≡ with_locals ns ps xs more) → p.code_view new ≡ placed_block ns ps (block_view b)
  block_placed b xs ss start code new e f is h g =
      ap p.code_view is ∙ view-append start code ∙ ap (λ c. p.code_view start ⨾ c) h ∙ g (placed_code ns ps (code_view ss))
      ∙ (λ j. with_locals ns ps (e j) (placed_code ns ps (code_view (f j)))) ∙ sym (placed-block b.locals b.body)

pub ruleset code_rules = (view-append, code-more, placed-block, placed_rules, view-Assign, view-Store, view-Call, view-If, view-IfElse, view-While, view-Break, view-Continue, view-Return, view-ReturnValue)
