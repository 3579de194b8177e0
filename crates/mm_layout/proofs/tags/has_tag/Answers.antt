use Rattle.std.proofs.Common.{sym, ◌∙◌}
use Rattle.mm_layout.proofs.Virtual.{bare_has_none}
use Rattle.mm_layout.proofs.tags.has_tag.Goals as goal

pub returns-then-not-is_complete : goal.returns-then-not-is_complete
returns-then-not-is_complete c =
    (λ e. cc, λ t. absurd (bare_has_none c.args.graph.now c.requires.valid c.args.c (sym c.is_complete.ensures ∙ c.if-not-is_complete.true) t))
