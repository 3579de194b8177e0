use Rattle.std.proofs.Common.{ℕ, sym, subst}
use Rattle.std.specs.Prelude.{Some}
use Rattle.mm_classes.specs.declared.class.Access.{Access}
use Rattle.mm_classes.specs.declared.class.Access.TheVariants.{Public}
use Rattle.mm_classes.specs.Access.{IsAccess}
use Rattle.mm_classes.specs.Questions.{node}
use Rattle.mm_lookup.specs.Access.{UsesAt}
use Rattle.mm_lookup.proofs.Using.{step_uses, uses_step}
use Rattle.mm_lookup.proofs.may.is_used_by.Goals as goal

pub returns : goal.returns
returns c = (
  (λ e. step_uses c.args.graph.now c.requires.valid c.requires.law c.args.from.now.class c.args.n (node c.args.graph.now c.args.n c.args.at) c.args.declared c.args.step c.part.result c.requires.step c.part.ensures.node c.part.ensures.path
      (subst (λ (x : Access). IsAccess c.args.graph.now c.args.n (node c.args.graph.now c.args.n c.args.step) Public (Some x)) c.in-Some-Public.field-0-is c.in-Some-Public.ensures)
      (subst (λ (k : ℕ). UsesAt c.args.graph.now c.args.from.now.class k (node c.args.graph.now k c.part.result) c.args.declared) c.class_of-class.ensures.class (c.uses_at.ensures.0 e))),
  λ h. c.uses_at.ensures.1 (subst (λ (k : ℕ). UsesAt c.args.graph.now c.args.from.now.class k (node c.args.graph.now k c.part.result) c.args.declared) (sym c.class_of-class.ensures.class)
      (uses_step c.args.graph.now c.requires.valid c.requires.law c.args.from.now.class c.args.n (node c.args.graph.now c.args.n c.args.at) c.args.declared c.args.step c.part.result c.requires.step c.part.ensures.node c.part.ensures.path h)),
)
