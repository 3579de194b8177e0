use Rattle.std.proofs.Common.{◌≡◌, map, take}
use Rattle.mm_c.specs.View.{item_view}
use Rattle.mm_c_places.specs.Places.{array_names}
use Rattle.mm_c_resolve.specs.Numbering.{texts}
use Rattle.mm_c_resolve.proofs.program.array_names.Given as goal

abbrev pub invariant-loop-item : goal.invariant-loop-item
invariant-loop-item l = texts l.names.items ≡ array_names (map item_view (take l.item-index l.items))
