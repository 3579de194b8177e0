use Rattle.std.proofs.Common.{◌≡◌, ◌++◌, drop}
use Rattle.mm_core.specs.Heads.{types_of_params}
use Rattle.mm_lower.proofs.head.types_of_params.Given as goal

abbrev pub invariant-loop-param : goal.invariant-loop-param
invariant-loop-param l = l.types ++ types_of_params (drop l.param-index l.params) ≡ types_of_params l.params
