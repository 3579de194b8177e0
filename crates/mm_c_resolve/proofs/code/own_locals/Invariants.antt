use Rattle.std.proofs.Common.{◌≡◌, map, take}
use Rattle.mm_c_places.specs.Placed.{own_local}
use Rattle.mm_c_resolve.specs.Named.{places_in}
use Rattle.mm_c_resolve.proofs.code.own_locals.Given as goal

abbrev pub invariant-loop-one : goal.invariant-loop-one
invariant-loop-one l = l.all ≡ map (own_local (places_in l.locals)) (take l.one-index l.of)
