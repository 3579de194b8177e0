use Rattle.std.proofs.Common.{◌≡◌, ◌++◌, ◌≤◌, drop, length}
use Rattle.mm_simulate.specs.Lowered.{locals_from}
use Rattle.mm_lower.proofs.head.locals_from.Given as goal

abbrev pub invariant-loop-number : goal.invariant-loop-number
invariant-loop-number l = (l.number ≤ length l.types) × (l.locals ++ locals_from l.number (drop l.number l.types) ≡ locals_from l.first (drop l.first l.types))
