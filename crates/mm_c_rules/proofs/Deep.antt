-- How deep blocks stand in one another.
use Rattle.std.specs.Prelude.{Bool, true, false, ◌&&◌, nat_le, nat_lt, max}
use Rattle.std.proofs.Common.{◌≡◌, ℕ, zero, suc, ◌+◌, ◌-◌, ◌<◌, List, length, drop, get_or, refl, sym, ap, ◌∙◌, arith}
use Rattle.std.proofs.lemmas.List.{drop_more}
use Rattle.mm_c.specs.declared.tree.CStmt.{CStmt}
use Rattle.mm_c.specs.View.{stmt_view, code_view}
use Rattle.mm_c.specs.WellFormed.{code_depth, stmt_depth}

pub most-max : (a b n : ℕ) → nat_le (max a b) n ≡ (nat_le a n && nat_le b n)
most-max a b n = go (nat_le a n) (nat_le b n) refl refl
  where
    go : (x y : Bool) → nat_le a n ≡ x → nat_le b n ≡ y → nat_le (max a b) n ≡ (x && y)
    go true true e f = grind (arith, e, f)
    go true false e f = grind (arith, e, f)
    go false y e f = grind (arith, e)

pub most-suc : (a n : ℕ) → nat_le (suc a) n ≡ (nat_lt 0 n && nat_le a (n - 1))
most-suc a zero = grind arith
most-suc a (suc n) = go (nat_le a n) refl
  where
    go : (x : Bool) → nat_le a n ≡ x → nat_le (suc a) (suc n) ≡ (nat_lt 0 (suc n) && nat_le a (suc n - 1))
    go true e = grind (arith, e)
    go false e = grind (arith, e)

pub depth-more : (n : ℕ) (ss : List CStmt) (i : ℕ) (d : CStmt) → i < length ss → d ≡ get_or ss i d → nat_le (code_depth (code_view (drop i ss))) n ≡ (nat_le (stmt_depth (stmt_view d)) n && nat_le (code_depth (code_view (drop (i + 1) ss))) n)
depth-more n ss i d l at =
    ap (λ x. nat_le (code_depth (code_view x)) n) (drop_more ss i d l) ∙ ap (λ x. nat_le (max (stmt_depth (stmt_view x)) (code_depth (code_view (drop (i + 1) ss)))) n) (sym at)
    ∙ most-max (stmt_depth (stmt_view d)) (code_depth (code_view (drop (i + 1) ss))) n
