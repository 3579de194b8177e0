use Rattle.std.proofs.Common.{refl}
use Rattle.mm_c.specs.View.{item_view}
use Rattle.mm_c_parse.proofs.Steps.{yes_, ok, no_, rg, fg, rs, ff, fs}
use Rattle.mm_c_parse.proofs.Seen.{bad_seen}
use Rattle.mm_c_parse_item.proofs.array.array.Goals as goal

pub returns-in_err-functions : goal.returns-in_err-functions
returns-in_err-functions c = bad_seen item_view _ c.from_residual.ensures.1 (λ e. fg (ff refl (no_ c.in_err-functions.ensures e)))

pub returns-in_err-name : goal.returns-in_err-name
returns-in_err-name c = bad_seen item_view _ c.from_residual-in_err-name.ensures.1 (λ e. fg (fs refl (ok c.in_ok-functions.ensures) (ff refl (no_ c.in_err-name.ensures e))))

pub returns-in_err-length : goal.returns-in_err-length
returns-in_err-length c = bad_seen item_view _ c.from_residual-in_err-length.ensures.1 (λ e. fg (fs refl (ok c.in_ok-functions.ensures) (fs refl (ok c.in_ok-name.ensures) (ff refl (no_ c.in_err-length.ensures e)))))

pub returns-in_err-elements : goal.returns-in_err-elements
returns-in_err-elements c = bad_seen item_view _ c.from_residual-in_err-elements.ensures.1 (λ e. fg (fs refl (ok c.in_ok-functions.ensures) (fs refl (ok c.in_ok-name.ensures) (fs refl (ok c.in_ok-length.ensures) (no_ c.in_err-elements.ensures e)))))

pub returns : goal.returns
returns c = yes_ (rg (rs refl (ok c.in_ok-functions.ensures) (rs refl (ok c.in_ok-name.ensures) (rs refl (ok c.in_ok-length.ensures) (ok c.in_ok-elements.ensures)))) refl)
