use Rattle.std.proofs.Common.{sym, ◌∙◌, ◌≡◌}
use Rattle.std.specs.Prelude.{true, false}
use Rattle.mm_lookup.proofs.Finding.{best_else, best_more, best_node}
use Rattle.mm_lookup.proofs.find.better_with.Goals as goal

pub returns-then-not-declares : goal.returns-then-not-declares
returns-then-not-declares c = best_else c.args.graph.now c.requires.valid c.args.c c.args.name.now c.args.best c.args.at
    (λ p. let z : false ≡ true = sym c.if-not-declares.true ∙ c.declares.ensures.1 p in cc) c.requires.before

pub better-requires-clause-best : goal.better-requires-clause-best
better-requires-clause-best c = best_node c.args.graph.now c.requires.valid c.args.c c.args.name.now c.args.best c.args.at c.requires.node c.requires.before

pub returns : goal.returns
returns c = best_more c.args.graph.now c.requires.valid c.args.c c.args.name.now c.args.best c.args.at c.better.result c.requires.node (c.declares.ensures.0 c.if-not-declares.false) c.better.ensures c.requires.before
