use Rattle.std.proofs.Common.{◌≡◌, map, take}
use Rattle.mm_c.specs.View.{item_view}
use Rattle.mm_c_placed.specs.View.{function_view}
use Rattle.mm_c_places.specs.Placed.{placed_functions}
use Rattle.mm_c_resolve.specs.Named.{numbers_in}
use Rattle.mm_c_resolve.proofs.program.place_functions.Given as goal

abbrev pub invariant-loop-item : goal.invariant-loop-item
invariant-loop-item l = map function_view l.all ≡ placed_functions (numbers_in l.globals) (map item_view (take l.item-index l.items))
