use Rattle.std.proofs.Common.{◌≡◌, map, sym, ap, ◌∙◌, arith}
use Rattle.mm_c.specs.View.{item_view, program_view}
use Rattle.mm_c.specs.WellFormed.{prelude, items_break, breaks}
use Rattle.mm_c_rules.specs.Keeps.{keeps, left_of}
use Rattle.mm_c_names.specs.Tables.{globals_in}
use Rattle.mm_c_rules.proofs.Sequence.{left_low, first_is}
use Rattle.mm_c_rules.proofs.program.first_break.Goals as goal

pub overflow_sub-result : goal.overflow_sub-result
overflow_sub-result c =
    let low = left_low (breaks (program_view c.args.program.now)) c.args.count in
    let is : c.items_keep.new.left ≡ left_of c.args.count (breaks (program_view c.args.program.now)) =
    c.in_ok-items_keep.ensures.left ∙ ap (λ s. left_of c.args.count (items_break prelude (globals_in s) (map item_view s))) c.as_slice.ensures in
    omega (arith, low, is)

pub returns-else-branch : goal.returns-else-branch
returns-else-branch c =
    first_is (breaks (program_view c.args.program.now)) c.args.count c.items_keep.new.left
    (c.in_ok-items_keep.ensures.left ∙ ap (λ s. left_of c.args.count (items_break prelude (globals_in s) (map item_view s))) c.as_slice.ensures)
    (sym (c.in_ok-items_keep.ensures.keeps ∙ ap (λ s. keeps (items_break prelude (globals_in s) (map item_view s))) c.as_slice.ensures) ∙ c.if-branch.false)
