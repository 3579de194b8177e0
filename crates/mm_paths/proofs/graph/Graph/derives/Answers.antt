use Rattle.std.proofs.Common.{refl, subst}
use Rattle.mm_classes.specs.declared.answer.Up.TheVariants as up
use Rattle.mm_classes.specs.Classes.{IsClassList}
use Rattle.mm_paths.proofs.Looking.{same_number, other_number}
use Rattle.mm_classes.proofs.Deriving.{itself, none_derives, found_derives}
use Rattle.mm_paths.proofs.graph.Graph.derives.Goals as goal

pub returns-then-eq : goal.returns-then-eq
returns-then-eq c = ((λ e. cc), λ d. absurd (itself c.args.self.now (subst IsClassList c.self.view_is c.self.invariant.valid) c.args.c c.args.b (same_number c.args.c c.args.b c.eq.result c.eq.ensures c.if-eq.true) d))

pub returns-in-None : goal.returns-in-None
returns-in-None c = ((λ e. cc), λ d. absurd (none_derives c.args.self.now (subst IsClassList c.self.view_is c.self.invariant.valid) c.args.c c.args.b c.in-None.ensures d))

pub returns-in-One : goal.returns-in-One
returns-in-One c = (
  (λ e. found_derives c.args.self.now (subst IsClassList c.self.view_is c.self.invariant.valid) c.args.c c.args.b
      (up.One c.in-One.field-0) (other_number c.args.c c.args.b c.eq.result c.eq.ensures c.if-eq.false) c.in-One.ensures (λ k. cc)),
  λ d. refl,
)

pub returns-in-Several : goal.returns-in-Several
returns-in-Several c = (
  (λ e. found_derives c.args.self.now (subst IsClassList c.self.view_is c.self.invariant.valid) c.args.c c.args.b
      up.Several (other_number c.args.c c.args.b c.eq.result c.eq.ensures c.if-eq.false) c.in-Several.ensures (λ k. cc)),
  λ d. refl,
)
