use Rattle.std.proofs.Common.{◌≡◌, take}
use Rattle.mm_c_places.specs.Places.{names_of}
use Rattle.mm_c_resolve.specs.Numbering.{texts}
use Rattle.mm_c_resolve.specs.Held.{seen}
use Rattle.mm_c_resolve.proofs.locals.names_of.Given as goal

abbrev pub invariant-loop-local : goal.invariant-loop-local
invariant-loop-local l = texts l.names.items ≡ names_of (seen (take l.local-index l.locals))
