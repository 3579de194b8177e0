use Rattle.std.proofs.Common.{◌≡◌, take}
use Rattle.mm_c_places.specs.Placed.{operands}
use Rattle.mm_c_resolve.specs.Named.{places_in}
use Rattle.mm_c_resolve.proofs.names.operands.Given as goal

abbrev pub invariant-loop-atom : goal.invariant-loop-atom
invariant-loop-atom l = l.all ≡ operands (places_in l.locals) (take l.atom-index l.atoms)
