use Rattle.std.proofs.Common.{◌≡◌, ℕ, [], ◌∷◌, ap, refl, sym, subst}
use Rattle.std.specs.Prelude.{true}
use Rattle.mm_classes.specs.declared.class.Member.{Member}
use Rattle.mm_classes.specs.declared.class.MemberKind.TheVariants as kind
use Rattle.mm_classes.specs.declared.class.Ty.{Ty}
use Rattle.mm_classes.specs.declared.class.Ty.TheVariants as ty
use Rattle.mm_classes.specs.Lists.{Has, first, later}
use Rattle.mm_classes.specs.Classes.{AreTyped, IsTyped, types_in}
use Rattle.mm_virtual.proofs.tests.with_f.Goals as goal

int_only : (n : ℕ) (t : Ty) → Has (types_in (kind.Function [] ty.Int true)) t → IsTyped n t
int_only n t (first e) = subst (IsTyped n) e tt
int_only n t (later h) = elim h [ ]

one_function : (x : Member) → x.kind ≡ kind.Function [] ty.Int true → (n : ℕ) → AreTyped n (x ∷ [])
one_function x k n m t (first e) h = int_only n t (subst (λ z. Has (types_in z) t) k (subst (λ (y : Member). Has (types_in y.kind) t) (sym e) h))
one_function x k n m t (later h) j = elim h [ ]

pub add-requires-clause-typed : goal.add-requires-clause-typed
add-requires-clause-typed c = one_function _ (ap (λ ps. kind.Function ps ty.Int true) c.new.ensures)
