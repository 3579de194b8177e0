use Rattle.std.proofs.Common.{◌≡◌, ◌≤◌, ◌++◌, length, drop}
use Rattle.mm_c_names.proofs.scope.Scope.enter.Given as goal

abbrev pub invariant-loop-i : goal.invariant-loop-i
invariant-loop-i l = (l.i ≤ length l.locals) × (l.self ≡ drop l.i l.locals ++ l.fn.self)

abbrev pub decreases-loop-i : goal.decreases-loop-i
decreases-loop-i l = l.i
