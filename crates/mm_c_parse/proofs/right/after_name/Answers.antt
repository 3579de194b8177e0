use Rattle.std.proofs.Common.{◌∷◌, [], refl}
use Rattle.mm_c_parse.specs.Parts.{signs}
use Rattle.mm_c_parse.proofs.Steps.{yes_, bad, tl, ok, no_, rg, fg, rs, fs, mr, mf, tr, tf, kr, kf, nr, nf, rz, ug, uf}
use Rattle.mm_c_parse.proofs.Ops.{op_reads}
use Rattle.mm_c_parse.proofs.right.after_name.Goals as goal

pub returns-in_err-second : goal.returns-in_err-second
returns-in_err-second c = bad c.from_residual.ensures.1 (λ e. fg (tf signs refl refl c.in-Some.ensures.0 c.in-Some.ensures.1 (no_ c.in_err-second.ensures e) (fg (fs refl (op_reads _ _ _ c.in-Some.ensures.0 c.in-Some.sign.class c.in-Some.ensures.2 c.in-Some.ensures.1) (no_ c.in_err-second.ensures e)))))

pub returns-in-Some : goal.returns-in-Some
returns-in-Some c = yes_ (rg (tr signs refl refl c.in-Some.ensures.0 c.in-Some.ensures.1 (rg (rs refl (op_reads _ _ _ c.in-Some.ensures.0 c.in-Some.sign.class c.in-Some.ensures.2 c.in-Some.ensures.1) (ok c.in_ok-second.ensures)) refl)) (cc c.operator.ensures))

pub returns-in_err-list : goal.returns-in_err-list
returns-in_err-list c = bad c.from_residual-in_err-list.ensures.1 (λ e. fg (nf signs refl refl refl c.in_default.ensures.0 c.in_default.ensures.1 (kf refl refl (c.skip.ensures.passed c.if-skip.true) (no_ c.in_err-list.ensures e) (fg (mf (20 ∷ []) refl (c.skip.ensures.passed c.if-skip.true) (no_ c.in_err-list.ensures e))))))

pub returns-then-skip : goal.returns-then-skip
returns-then-skip c = yes_ (rg (nr signs refl refl c.in_default.ensures.0 c.in_default.ensures.1 (kr refl refl (c.skip.ensures.passed c.if-skip.true) (rg (mr (20 ∷ []) refl (c.skip.ensures.passed c.if-skip.true) (ok c.in_ok-list.ensures)) refl))) refl)

pub returns-then-skip-2 : goal.returns-then-skip-2
returns-then-skip-2 c = tl c.indexed.ensures (λ v a. let u = ug a in rg (nr signs refl refl c.in_default.ensures.0 c.in_default.ensures.1 (nr (20 ∷ []) refl refl (c.skip.ensures.none c.if-skip.false).0 (c.skip.ensures.none c.if-skip.false).1 (kr refl refl (c.skip-2.ensures.passed c.if-skip-2.true) (mr (24 ∷ []) refl (c.skip-2.ensures.passed c.if-skip-2.true) u.2)))) u.1) (λ a. fg (nf signs refl refl refl c.in_default.ensures.0 c.in_default.ensures.1 (nf (20 ∷ []) refl refl refl (c.skip.ensures.none c.if-skip.false).0 (c.skip.ensures.none c.if-skip.false).1 (kf refl refl (c.skip-2.ensures.passed c.if-skip-2.true) (uf a) (mf (24 ∷ []) refl (c.skip-2.ensures.passed c.if-skip-2.true) (uf a))))))

pub returns : goal.returns
returns c = yes_ (rg (nr signs refl refl c.in_default.ensures.0 c.in_default.ensures.1 (nr (20 ∷ []) refl refl (c.skip.ensures.none c.if-skip.false).0 (c.skip.ensures.none c.if-skip.false).1 (nr (24 ∷ []) refl refl (c.skip-2.ensures.none c.if-skip-2.false).0 (c.skip-2.ensures.none c.if-skip-2.false).1 (rg rz refl)))) refl)
