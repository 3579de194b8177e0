use Rattle.std.specs.Prelude.{true}
use Rattle.std.proofs.Common.{◌≡◌, ◌≤◌, length, drop}
use Rattle.mm_c.specs.WellFormed.{locals_fit}
use Rattle.mm_c_names.specs.Tables.{globals_in}
use Rattle.mm_c_rules.specs.Locals.{held}
use Rattle.mm_c_rules.proofs.Own.{AreMet, names_of}
use Rattle.mm_c_rules.proofs.locals.are_own.Given as goal

abbrev pub invariant-loop-i : goal.invariant-loop-i
invariant-loop-i l =
    (l.i ≤ length l.locals) × AreMet l.later (names_of (held (drop l.i l.locals)))
    × (locals_fit (globals_in l.names) (held (drop l.i l.locals)) ≡ true)

abbrev pub decreases-loop-i : goal.decreases-loop-i
decreases-loop-i l = l.i
