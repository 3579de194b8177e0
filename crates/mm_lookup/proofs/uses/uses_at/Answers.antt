use Rattle.std.proofs.Common.{refl, subst, rules}
use Rattle.std.specs.Prelude.{Some}
use Rattle.mm_classes.specs.declared.class.Access.{Access}
use Rattle.mm_classes.specs.Access.{IsAccess}
use Rattle.mm_classes.specs.Questions.{node}
use Rattle.mm_lookup.specs.Access.{everywhere}
use Rattle.mm_lookup.proofs.uses.uses_at.Goals as goal

pub returns-then-eq : goal.returns-then-eq
returns-then-eq c = ((λ e. everywhere (subst (λ (x : Access). IsAccess c.args.graph.now c.args.n (node c.args.graph.now c.args.n c.args.at) c.args.declared (Some x)) (search rules) c.in-Some.ensures)), λ u. refl)
