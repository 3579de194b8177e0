-- What a walk over blocks comes to.
use Rattle.std.specs.Borrow.{Bor}
use Rattle.std.proofs.Common.{◌≡◌, ℕ, ◌+◌, ◌<◌, List, [], ◌∷◌, ◌++◌, length, map, take, get_or, refl, sym, ap, ap₂, ◌∙◌, append_assoc}
use Rattle.std.proofs.lemmas.List.{take_more, map-append, append-nil}
use Rattle.mm_c.specs.declared.tree.CLocal.{CLocal}
use Rattle.mm_c.specs.declared.tree.CStmt.{CStmt}
use Rattle.mm_c.specs.View.{stmt_view, block_view, code_view}
use Rattle.mm_c.specs.WellFormed.{locals_of, code_locals, stmt_locals}
use Rattle.mm_c.proofs.Views.{view-Assign, view-Store, view-Call, view-If, view-IfElse, view-While, view-Break, view-Continue, view-Return, view-ReturnValue, view-block}
use Rattle.mm_c_resolve.specs.Held.{seen}

pub seen-push : (all : List (Bor CLocal)) (l : Bor CLocal) → seen (all ++ l ∷ []) ≡ seen all ++ l.now ∷ []
seen-push all l = map-append (λ (l : Bor CLocal). l.now) all (l ∷ [])

code_locals-append : (ss : List CStmt) (s : CStmt) → code_locals (code_view (ss ++ s ∷ [])) ≡ code_locals (code_view ss) ++ stmt_locals (stmt_view s)
code_locals-append [] s = append-nil (stmt_locals (stmt_view s))
code_locals-append (x ∷ ss) s = ap (λ l. stmt_locals (stmt_view x) ++ l) (code_locals-append ss s) ∙ sym (append_assoc (stmt_locals (stmt_view x)) (code_locals (code_view ss)) (stmt_locals (stmt_view s)))

-- one statement more
pub code_locals-more : (ss : List CStmt) (i : ℕ) (d : CStmt) → i < length ss → d ≡ get_or ss i d → code_locals (code_view (take (i + 1) ss)) ≡ code_locals (code_view (take i ss)) ++ stmt_locals (stmt_view d)
code_locals-more ss i d lt at = ap (λ l. code_locals (code_view l)) (take_more ss i d lt) ∙ code_locals-append (take i ss) (get_or ss i d) ∙ ap (λ s. code_locals (code_view (take i ss)) ++ stmt_locals (stmt_view s)) (sym at)

pub locals-block : (xs : List CLocal) (ss : List CStmt) → locals_of (block_view (record { locals = xs; body = ss })) ≡ xs ++ code_locals (code_view ss)
locals-block xs ss = ap locals_of (view-block xs ss)

pub ruleset local_rules = (seen-push, code_locals-more, locals-block, append-nil, append_assoc, view-Assign, view-Store, view-Call, view-If, view-IfElse, view-While, view-Break, view-Continue, view-Return, view-ReturnValue)
