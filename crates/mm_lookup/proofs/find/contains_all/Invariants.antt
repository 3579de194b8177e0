use Rattle.std.proofs.Common.{◌-◌, ◌≤◌}
use Rattle.mm_classes.specs.Tops.{ContainsAll}
use Rattle.mm_lookup.specs.Lookup.{Declares}
use Rattle.mm_lookup.proofs.find.contains_all.Given as goal

abbrev pub invariant-loop-n : goal.invariant-loop-n
invariant-loop-n l = record { low : l.n ≤ l.count; so_far : ContainsAll l.graph l.c (Declares l.graph l.c l.name) l.best l.n }

abbrev pub decreases-loop-n : goal.decreases-loop-n
decreases-loop-n l = l.count - l.n
