use Rattle.std.proofs.Common.{◌≤◌, length, drop}
use Rattle.mm_c_names.specs.Tables.{AreDefined}
use Rattle.mm_c_names.proofs.globals.definitions_of.Given as goal

abbrev pub invariant-loop-i : goal.invariant-loop-i
invariant-loop-i l = (l.i ≤ length l.items) × AreDefined l.defined (drop l.i l.items)

abbrev pub decreases-loop-i : goal.decreases-loop-i
decreases-loop-i l = l.i
