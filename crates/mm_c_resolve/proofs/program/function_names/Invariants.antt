use Rattle.std.proofs.Common.{◌≡◌, map, take}
use Rattle.mm_c.specs.View.{item_view}
use Rattle.mm_c_places.specs.Places.{function_names}
use Rattle.mm_c_resolve.specs.Numbering.{texts}
use Rattle.mm_c_resolve.proofs.program.function_names.Given as goal

abbrev pub invariant-loop-item : goal.invariant-loop-item
invariant-loop-item l = texts l.names.items ≡ function_names (map item_view (take l.item-index l.items))
