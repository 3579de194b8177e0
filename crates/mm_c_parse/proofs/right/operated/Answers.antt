use Rattle.std.proofs.Common.{refl}
use Rattle.mm_c_parse.specs.Parts.{signs}
use Rattle.mm_c_parse.proofs.Steps.{yes_, bad, ok, no_, rg, fg, rs, fs, tr, tf, nr, rz}
use Rattle.mm_c_parse.proofs.Ops.{op_reads}
use Rattle.mm_c_parse.proofs.right.operated.Goals as goal

pub returns-in_err-second : goal.returns-in_err-second
returns-in_err-second c = bad c.from_residual.ensures.1 (λ e. fg (tf signs refl refl c.in-Some.ensures.0 c.in-Some.ensures.1 (no_ c.in_err-second.ensures e) (fg (fs refl (op_reads _ _ _ c.in-Some.ensures.0 c.in-Some.sign.class c.in-Some.ensures.2 c.in-Some.ensures.1) (no_ c.in_err-second.ensures e)))))

pub returns-in-Some : goal.returns-in-Some
returns-in-Some c = yes_ (rg (tr signs refl refl c.in-Some.ensures.0 c.in-Some.ensures.1 (rg (rs refl (op_reads _ _ _ c.in-Some.ensures.0 c.in-Some.sign.class c.in-Some.ensures.2 c.in-Some.ensures.1) (ok c.in_ok-second.ensures)) refl)) (cc c.operator.ensures))

pub returns : goal.returns
returns c = yes_ (rg (nr signs refl refl c.in_default.ensures.0 c.in_default.ensures.1 (rg rz refl)) refl)
