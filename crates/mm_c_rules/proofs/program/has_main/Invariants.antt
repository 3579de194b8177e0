use Rattle.std.proofs.Common.{◌≡◌, drop, map}
use Rattle.std.specs.List.{list_any}
use Rattle.mm_c.specs.View.{item_view}
use Rattle.mm_c.specs.WellFormed.{is_main}
use Rattle.mm_c_rules.proofs.program.has_main.Given as goal

abbrev pub invariant-loop-item : goal.invariant-loop-item
invariant-loop-item l = list_any is_main (map item_view l.items) ≡ list_any is_main (map item_view (drop l.item-index l.items))
