use Rattle.std.proofs.Common.{◌≡◌, map, take}
use Rattle.mm_c_places.specs.Placed.{placed_element}
use Rattle.mm_c_resolve.specs.Named.{numbers_in}
use Rattle.mm_c_resolve.proofs.program.place_array.Given as goal

abbrev pub invariant-loop-element : goal.invariant-loop-element
invariant-loop-element l = l.elements ≡ map (placed_element (numbers_in l.globals)) (take l.element-index l.element-items)
