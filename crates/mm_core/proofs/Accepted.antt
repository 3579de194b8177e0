-- Bodies that are valid: what validity asks can be met.
use Rattle.std.proofs.Common.{[], ◌∷◌, refl, inl, arith}
use Rattle.std.specs.Prelude.{pos}
use Rattle.mm_classes.specs.declared.class.Ty.TheVariants as ty
use Rattle.mm_classes.specs.Lists.{first, later}
use Rattle.mm_core.specs.Tree.{Stmt, block, run, return, make, set_local, move, local, open_call, Function}
use Rattle.mm_core.specs.ValidProgram.{around, IsBody}
use Rattle.mm_core.proofs.Written.{args, stmts, put, main_of}
use Rattle.mm_core.proofs.Dispatched.{text_f, two, zero}

abbrev body : Stmt
body = block (stmts (make 0 ∷ make 1 ∷ run (set_local 2 (move 1 1 (local 0))) ∷ run (set_local 3 (move 1 1 (local 1))) ∷ put (open_call 0 (args (local 2 ∷ local 3 ∷ []))) ∷ return zero ∷ []))

abbrev main : Function
main = main_of (ty.Ref 1 ∷ ty.Ref 1 ∷ ty.Ref 0 ∷ ty.Ref 0 ∷ []) []

main_is_valid : IsBody (around (λ f. f.defined) text_f main) ty.Int body
main_is_valid = (
  (omega arith, omega arith, (1, (refl, (omega arith, refl)))),
  (
    (omega arith, omega arith, (1, (refl, (omega arith, refl)))),
    (
      (omega arith, ((λ e. cc), inl refl), (refl, (omega arith, refl), omega arith, omega arith, (omega arith, λ r. later (first refl)))),
      (
        (omega arith, ((λ e. cc), inl refl), (refl, (omega arith, refl), omega arith, omega arith, (omega arith, λ r. later (first refl)))),
        (
          ((((λ e. cc), inl refl), tt), (((two 0 0 (pos 1), refl, refl, refl, (((λ e. cc), inl refl), (((λ e. cc), inl refl), tt))), ((omega arith, λ r. later (first refl)), ((omega arith, λ r. first refl), tt))), tt)),
          ((((λ e. cc), inl refl), refl), tt),
        ),
      ),
    ),
  ),
)
