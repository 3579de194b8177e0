use Rattle.std.proofs.Common.{sym, ◌∙◌}
use Rattle.mm_layout.specs.Layouts.{test_of}
use Rattle.mm_layout.proofs.Counting.{bare_pairs}
use Rattle.mm_layout.proofs.few.pairs_in.Goals as goal

pub returns-then-not-is_complete-clause-pairs : goal.returns-then-not-is_complete-clause-pairs
returns-then-not-is_complete-clause-pairs c = sym (bare_pairs c.args.graph.now c.requires.valid (test_of c.args.tags.now) c.requires.tags.1 c.args.d c.requires.class (sym c.is_complete.ensures ∙ c.if-not-is_complete.true))
