use Rattle.std.proofs.Common.{◌≡◌, ◌++◌, take}
use Rattle.mm_c_resolve.specs.Held.{seen}
use Rattle.mm_c_resolve.proofs.locals.push_own.Given as goal

abbrev pub invariant-loop-local : goal.invariant-loop-local
invariant-loop-local l = seen l.all.items ≡ seen l.fn.all.items ++ take l.local-index l.locals
