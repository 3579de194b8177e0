use Rattle.std.proofs.Common.{◌∷◌, [], refl}
use Rattle.mm_c_parse.proofs.Steps.{yes_, ok, no_, took, rg, fg, tr, nr, nf}
use Rattle.mm_c_parse.proofs.Seen.{bad_seen}
use Rattle.mm_c_parse_item.specs.Seen.{result_place}
use Rattle.mm_c_parse_item.proofs.kind.result_at.Goals as goal

pub returns-in-Some : goal.returns-in-Some
returns-in-Some c = let k = c.in-Some.ensures in yes_ (tr (44 ∷ []) refl refl k.0 k.1 (rg (took (44 ∷ []) k.0 k.1) refl))

pub returns-in_err-placed : goal.returns-in_err-placed
returns-in_err-placed c = let n = c.in_default.ensures in bad_seen result_place _ c.from_residual.ensures.1 (λ e. nf (44 ∷ []) refl refl refl n.0 n.1 (fg (no_ c.in_err-placed.ensures e)))

pub returns : goal.returns
returns c = let n = c.in_default.ensures in yes_ (nr (44 ∷ []) refl refl n.0 n.1 (rg (ok c.in_ok-placed.ensures) refl))
