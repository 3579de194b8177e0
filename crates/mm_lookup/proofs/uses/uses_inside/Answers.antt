use Rattle.std.proofs.Common.{refl, ap, subst}
use Rattle.std.specs.Prelude.{true, false, Some}
use Rattle.mm_classes.specs.declared.class.Access.{Access}
use Rattle.mm_classes.specs.declared.class.Access.TheVariants.{Protected}
use Rattle.mm_classes.specs.Access.{IsAccess}
use Rattle.mm_classes.specs.Questions.{node}
use Rattle.mm_lookup.specs.Access.{own}
use Rattle.mm_paths.proofs.Looking.{same_number, other_number}
use Rattle.mm_lookup.proofs.Using.{by_way, way_of}
use Rattle.mm_lookup.proofs.uses.uses_inside.Goals as goal

pub returns-then-eq : goal.returns-then-eq
returns-then-eq c = (
  (λ e. own c.args.access c.requires.access (ap Some (same_number c.args.f c.args.n true c.if-eq.ensures refl))),
  λ u. refl,
)

protected : (c : goal.After-has_access_in) → IsAccess c.args.graph.now c.args.n (node c.args.graph.now c.args.n c.args.at) c.args.declared (Some Protected)
protected c = subst (λ (x : Access). IsAccess c.args.graph.now c.args.n (node c.args.graph.now c.args.n c.args.at) c.args.declared (Some x)) c.in-Protected.is c.requires.access

pub returns-in-Protected : goal.returns-in-Protected
returns-in-Protected c = (
  (λ e. by_way c.args.graph.now c.requires.valid c.requires.law c.args.f c.args.n (node c.args.graph.now c.args.n c.args.at) c.args.declared
      (other_number c.args.f c.args.n false c.if-eq.ensures refl) (protected c) (c.has_access_in.ensures.0 e)),
  λ u. c.has_access_in.ensures.1 (way_of c.args.graph.now c.requires.valid c.requires.law c.args.f c.args.n (node c.args.graph.now c.args.n c.args.at) c.args.declared
      (other_number c.args.f c.args.n false c.if-eq.ensures refl) (protected c) u),
)
