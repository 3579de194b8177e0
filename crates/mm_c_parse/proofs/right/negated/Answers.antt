use Rattle.std.proofs.Common.{refl}
use Rattle.mm_c_parse.proofs.Steps.{bad, tl, ok, no_, rg, fg, rs, ff, fs, ug, uf}
use Rattle.mm_c_parse.proofs.right.negated.Goals as goal

pub returns-in_err-value : goal.returns-in_err-value
returns-in_err-value c = bad c.from_residual.ensures.1 (λ e. fg (ff refl (no_ c.in_err-value.ensures e)))

pub returns : goal.returns
returns c = tl c.operated.ensures (λ v a. let u = ug a in rg (rs refl (ok c.in_ok-value.ensures) u.2) u.1) (λ a. fg (fs refl (ok c.in_ok-value.ensures) (uf a)))
