use Rattle.std.proofs.Common.{sym, ◌∙◌}
use Rattle.mm_lookup.proofs.Using.{private_itself, private_else}
use Rattle.mm_lookup.proofs.uses.private_access.Goals as goal

pub returns-then-n-eq0 : goal.returns-then-n-eq0
returns-then-n-eq0 c = private_itself c.args.graph.now c.requires.valid c.args.c c.args.n (sym c.n.view_is ∙ c.if-n-eq0.true)

pub returns : goal.returns
returns c = private_else c.args.graph.now c.requires.valid c.args.c c.args.n c.requires.law c.requires.complete c.requires.node (λ e. c.if-n-eq0.false (c.n.view_is ∙ e))
