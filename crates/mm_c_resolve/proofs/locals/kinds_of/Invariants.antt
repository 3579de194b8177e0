use Rattle.std.proofs.Common.{◌≡◌, take}
use Rattle.mm_c.specs.WellFormed.{kinds_of}
use Rattle.mm_c_resolve.specs.Held.{seen}
use Rattle.mm_c_resolve.proofs.locals.kinds_of.Given as goal

abbrev pub invariant-loop-local : goal.invariant-loop-local
invariant-loop-local l = l.kinds.items ≡ kinds_of (seen (take l.local-index l.locals))
