use Rattle.std.proofs.Common.{◌≡◌, map, take}
use Rattle.mm_unit_typing.specs.Functions.{core_param}
use Rattle.mm_check_function.proofs.known.core_params.Given as goal

abbrev pub invariant-loop-ty : goal.invariant-loop-ty
invariant-loop-ty l = l.all ≡ map core_param (take l.ty-index l.params)
