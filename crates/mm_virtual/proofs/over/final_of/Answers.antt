use Rattle.std.proofs.Common.{◌≡◌, sym, ◌∙◌, subst, ap}
use Rattle.std.specs.Prelude.{true, false, MatchOption, None}
use Rattle.mm_virtual.specs.Overriders.{HasNoFinal}
use Rattle.mm_virtual.specs.Finals.{IsFinalRef}
use Rattle.mm_virtual.proofs.Finding.{none_final, several_final, only_one}
use Rattle.mm_virtual.proofs.over.final_of.Goals as goal

pub returns-in_err-best : goal.returns-in_err-best
returns-in_err-best c = subst (λ o. MatchOption o (HasNoFinal c.args.graph.now c.args.d c.args.n c.args.m.now) (λ r. IsFinalRef c.args.graph.now c.args.d c.args.n c.args.m.now r)) (sym c.from_residual.ensures)
    (none_final c.args.graph.now c.requires.valid c.args.d c.args.n c.args.m.now c.in_err-best.ensures)

pub returns-then-not-contains_all : goal.returns-then-not-contains_all
returns-then-not-contains_all c = several_final c.args.graph.now c.requires.valid c.args.d c.args.n c.args.m.now c.args.around.now c.requires.around c.in_ok-best.best c.in_ok-best.ensures
    (λ all. let z : false ≡ true = sym c.if-not-contains_all.true ∙ c.contains_all.ensures.1 all in cc)

pub returns : goal.returns
returns c = (
  only_one c.args.graph.now c.requires.valid c.args.d c.args.n c.args.m.now c.in_ok-best.best c.in_ok-best.ensures (c.contains_all.ensures.0 c.if-not-contains_all.false),
  c.class_of-class.ensures.class,
  c.in_ok-index.ensures,
)
