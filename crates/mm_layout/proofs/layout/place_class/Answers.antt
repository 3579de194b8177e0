use Rattle.std.proofs.Common.{◌≡◌, ◌+◌, sym, ◌∙◌, ap, arith}
use Rattle.mm_layout.specs.Cells.{cells_of}
use Rattle.mm_layout.specs.Layouts.{test_of}
use Rattle.mm_layout.proofs.Numbering.{bare_cells}
use Rattle.mm_layout.proofs.layout.place_class.Goals as goal

pub returns-then-not-is_complete-clause-next : goal.returns-then-not-is_complete-clause-next
returns-then-not-is_complete-clause-next c =
    let z : cells_of c.args.graph.now (test_of c.args.sorts.now.tags.items) c.args.c ≡ 0
    = bare_cells c.args.graph.now (test_of c.args.sorts.now.tags.items) c.requires.valid c.requires.sorts.tags.1 c.args.c c.requires.class (sym c.is_complete.ensures ∙ c.if-not-is_complete.true) in
    omega arith
