use Rattle.std.proofs.Common.{refl}
use Rattle.mm_c_parse.proofs.Steps.{yes_, bad, ok, no_, rg, fg, rs, ff, fs}
use Rattle.mm_c_parse_item.proofs.kind.named.Goals as goal

pub returns-in_err-kind : goal.returns-in_err-kind
returns-in_err-kind c = bad c.from_residual.ensures.1 (λ e. fg (ff refl (no_ c.in_err-kind.ensures e)))

pub returns-in_err-name : goal.returns-in_err-name
returns-in_err-name c = bad c.from_residual-in_err-name.ensures.1 (λ e. fg (fs refl (ok c.in_ok-kind.ensures) (no_ c.in_err-name.ensures e)))

pub returns : goal.returns
returns c = yes_ (rg (rs refl (ok c.in_ok-kind.ensures) (ok c.in_ok-name.ensures)) refl)
