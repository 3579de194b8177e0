use Rattle.mm_lookup.proofs.Finding.{none_left, several_left}
use Rattle.std.proofs.Common.{◌≡◌, sym, ◌∙◌}
use Rattle.std.specs.Prelude.{true, false}
use Rattle.mm_lookup.proofs.find.find.Goals as goal

pub returns-in_default : goal.returns-in_default
returns-in_default c = none_left c.args.graph.now c.classes-classes.ensures.valid c.args.c c.args.name.now c.in_default.ensures

pub returns-then-not-contains_all : goal.returns-then-not-contains_all
returns-then-not-contains_all c = several_left c.args.graph.now c.classes-classes.ensures.valid c.args.c c.args.name.now c.in-Some.node c.in-Some.ensures
    (λ all. let z : false ≡ true = sym c.if-not-contains_all.true ∙ c.contains_all.ensures.1 all in cc)

pub declared-requires-clause-all : goal.declared-requires-clause-all
declared-requires-clause-all c = c.contains_all.ensures.0 c.if-not-contains_all.false
