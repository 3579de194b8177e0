use Rattle.std.proofs.Common.{◌≡◌, take}
use Rattle.mm_c.specs.WellFormed.{kinds_of}
use Rattle.mm_c_resolve.proofs.program.param_kinds.Given as goal

abbrev pub invariant-loop-param : goal.invariant-loop-param
invariant-loop-param l = l.kinds ≡ kinds_of (take l.param-index l.params)
