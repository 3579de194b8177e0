use Rattle.std.proofs.Common.{◌≡◌, drop}
use Rattle.mm_c_names.proofs.scope.Scope.leave.Given as goal

abbrev pub invariant-loop : goal.invariant-loop
invariant-loop l = l.self ≡ drop l.counter l.fn.self
