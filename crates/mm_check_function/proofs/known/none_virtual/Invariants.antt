use Rattle.std.proofs.Common.{◌≡◌, take}
use Rattle.mm_unit_typing.specs.Functions.{never}
use Rattle.mm_check_function.proofs.known.none_virtual.Given as goal

abbrev pub invariant-loop-ty : goal.invariant-loop-ty
invariant-loop-ty l = l.marks ≡ never (take l._ty-index l.params)
