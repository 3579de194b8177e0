use Rattle.std.proofs.Common.{◌≡◌, take, drop, map}
use Rattle.mm_c.specs.View.{item_view}
use Rattle.mm_c.specs.WellFormed.{prelude, items_break}
use Rattle.mm_c_names.specs.Entries.{table_of}
use Rattle.mm_c_names.specs.Tables.{globals_in}
use Rattle.mm_c_rules.specs.Keeps.{keeps, left_of}
use Rattle.mm_c_rules.proofs.program.items_keep.Given as goal

abbrev pub invariant-loop-i : goal.invariant-loop-i
invariant-loop-i l =
    (keeps (items_break prelude (globals_in l.items) (map item_view l.items))
    ≡ keeps (items_break (table_of (take l.i l.items)) (globals_in l.items) (map item_view (drop l.i l.items))))
    × (left_of l.fn.left (items_break prelude (globals_in l.items) (map item_view l.items))
    ≡ left_of l.left (items_break (table_of (take l.i l.items)) (globals_in l.items) (map item_view (drop l.i l.items))))
    × (l.declared ≡ take l.i l.items)
