use Rattle.std.proofs.Common.{sym, ◌∙◌, ◌≡◌}
use Rattle.std.specs.Prelude.{true, false}
use Rattle.mm_virtual.proofs.Finding.{best_else, best_more, best_node}
use Rattle.mm_virtual.proofs.over.better_with.Goals as goal

pub returns-then-not-is_over : goal.returns-then-not-is_over
returns-then-not-is_over c = best_else c.args.graph.now c.requires.valid c.args.d c.args.n c.args.m.now c.args.best c.args.at
    (λ p. let z : false ≡ true = sym c.if-not-is_over.true ∙ c.is_over.ensures.1 p in cc) c.requires.before

pub better-requires-clause-best : goal.better-requires-clause-best
better-requires-clause-best c = best_node c.args.graph.now c.requires.valid c.args.d c.args.n c.args.m.now c.args.best c.args.at c.requires.node c.requires.before

pub returns : goal.returns
returns c = best_more c.args.graph.now c.requires.valid c.args.d c.args.n c.args.m.now c.args.best c.args.at c.better.result c.requires.node (c.is_over.ensures.0 c.if-not-is_over.false) c.better.ensures c.requires.before
