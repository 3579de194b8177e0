use Rattle.std.proofs.Common.{◌≡◌, ◌++◌, take, map, flat_map}
use Rattle.mm_c.specs.View.{item_view}
use Rattle.mm_c.specs.Printing.{text_of, item_tokens}
use Rattle.mm_c_print.proofs.items.put_items.Given as goal

abbrev pub invariant-loop-item : goal.invariant-loop-item
invariant-loop-item l = l.out.items ≡ l.initial.out.items ++ text_of (flat_map item_tokens (map item_view (take l.item-index l.items)))
