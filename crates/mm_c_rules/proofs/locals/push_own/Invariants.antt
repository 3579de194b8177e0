use Rattle.std.proofs.Common.{◌≡◌, ◌++◌, take}
use Rattle.mm_c_rules.specs.Locals.{held}
use Rattle.mm_c_rules.proofs.locals.push_own.Given as goal

abbrev pub invariant-loop-local : goal.invariant-loop-local
invariant-loop-local l = held l.all.items ≡ held l.fn.all.items ++ take l.local-index l.locals
