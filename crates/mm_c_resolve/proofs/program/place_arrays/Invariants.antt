use Rattle.std.proofs.Common.{◌≡◌, map, take}
use Rattle.mm_c.specs.View.{item_view}
use Rattle.mm_c_places.specs.Placed.{placed_arrays}
use Rattle.mm_c_resolve.specs.Named.{numbers_in, elements_of}
use Rattle.mm_c_resolve.proofs.program.place_arrays.Given as goal

abbrev pub invariant-loop-item : goal.invariant-loop-item
invariant-loop-item l = map elements_of l.all ≡ placed_arrays (numbers_in l.globals) (map item_view (take l.item-index l.items))
