use Rattle.std.proofs.Common.{◌∷◌, [], ◌≡◌, refl, sym, ap, ◌∙◌}
use Rattle.std.proofs.lemmas.List.{append-nil}
use Rattle.mm_c.specs.View.{item_view}
use Rattle.mm_c_parse.proofs.Steps.{rg, fg, mw, kr, nr, nf}
use Rattle.mm_c_parse_stmt.proofs.Gathers.{got, gone, gives, lacks}
use Rattle.mm_c_parse_item.proofs.Items.{function_is}
use Rattle.mm_c_parse_item.proofs.item.after_head.Goals as goal

pub returns-then-skip : goal.returns-then-skip
returns-then-skip c =
    let k = c.skip.ensures.passed c.if-skip.true in
    gives item_view _ [] refl (sym (append-nil _)) (rg (kr refl refl k (rg (mw k).1 refl)) refl)

pub returns-in_err-body : goal.returns-in_err-body
returns-in_err-body c =
    let n = c.skip.ensures.none c.if-skip.false in
    lacks item_view _ c.from_residual.ensures.1 (λ e. fg (nf (26 ∷ []) refl refl refl n.0 n.1 (fg (gone c.in_err-body.ensures e))))

pub returns : goal.returns
returns c =
    let n = c.skip.ensures.none c.if-skip.false in
    let b = got c.in_ok-body.ensures in
    gives item_view _ b.0 (function_is _ _ _ c.static_linkage-linkage.ensures c.into_inner.ensures) b.1 (rg (nr (26 ∷ []) refl refl n.0 n.1 (rg b.2 refl)) refl)
