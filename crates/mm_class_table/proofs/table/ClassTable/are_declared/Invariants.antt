use Rattle.std.proofs.Common.{◌≤◌, ◌-◌, length, take}
use Rattle.mm_classes.specs.Adding.{AreDeclared}
use Rattle.mm_class_table.proofs.table.ClassTable.are_declared.Given as goal

abbrev pub invariant-loop-n : goal.invariant-loop-n
invariant-loop-n l = record { low : l.n ≤ length l.bases; so_far : AreDeclared l.self (take l.n l.bases) }

abbrev pub decreases-loop-n : goal.decreases-loop-n
decreases-loop-n l = length l.bases - l.n
