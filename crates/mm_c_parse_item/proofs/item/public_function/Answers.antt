use Rattle.std.proofs.Common.{◌∷◌, [], ◌++◌, refl, ap, ◌∙◌, append_assoc}
use Rattle.mm_c.specs.View.{item_view}
use Rattle.mm_c_parse.proofs.Steps.{ok, no_, rg, fg, rs, ff, fs}
use Rattle.mm_c_text.specs.Places.{at}
use Rattle.mm_c_parse_stmt.proofs.Gathers.{got, gone, gives, lacks}
use Rattle.mm_c_parse_item.proofs.Items.{function_is}
use Rattle.mm_c_parse_item.proofs.item.public_function.Goals as goal

pub returns-in_err-result : goal.returns-in_err-result
returns-in_err-result c = lacks item_view _ c.from_residual.ensures.1 (λ e. fg (ff refl (no_ c.in_err-result.ensures e)))

pub returns-in_err-name : goal.returns-in_err-name
returns-in_err-name c = lacks item_view _ c.from_residual-in_err-name.ensures.1 (λ e. fg (fs refl (ok c.in_ok-result.ensures) (ff refl (no_ c.in_err-name.ensures e))))

pub returns-in_err-body : goal.returns-in_err-body
returns-in_err-body c = lacks item_view _ c.from_residual-in_err-body.ensures.1 (λ e. fg (fs refl (ok c.in_ok-result.ensures) (fs refl (ok c.in_ok-name.ensures) (gone c.in_err-body.ensures e))))

pub returns : goal.returns
returns c =
    let b = got c.in_ok-body.ensures in
    gives item_view _ (at c.in_ok-result.result.place ∷ b.0) (function_is _ _ _ refl c.into_inner.ensures) (b.1 ∙ (ap (λ l. l ++ b.0) c.in_ok-push.ensures ∙ append_assoc _ (at c.in_ok-result.result.place ∷ []) b.0))
    (rg (rs refl (ok c.in_ok-result.ensures) (rs refl (ok c.in_ok-name.ensures) b.2)) refl)
