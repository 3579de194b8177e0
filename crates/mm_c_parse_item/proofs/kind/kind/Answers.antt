use Rattle.std.proofs.Common.{refl}
use Rattle.mm_c_parse.proofs.Steps.{yes_, bad, ok, no_, rg, fg}
use Rattle.mm_c_parse_item.proofs.kind.kind.Goals as goal

pub returns-in_err-placed : goal.returns-in_err-placed
returns-in_err-placed c = bad c.from_residual.ensures.1 (λ e. fg (no_ c.in_err-placed.ensures e))

pub returns : goal.returns
returns c = yes_ (rg (ok c.in_ok-placed.ensures) refl)
