use Rattle.std.proofs.Common.{◌-◌, ◌≤◌}
use Rattle.mm_classes.specs.Tops.{ContainsAll}
use Rattle.mm_virtual.specs.Overriders.{IsOver}
use Rattle.mm_virtual.proofs.over.contains_all.Given as goal

abbrev pub invariant-loop-t : goal.invariant-loop-t
invariant-loop-t l = record { low : l.t ≤ l.count; so_far : ContainsAll l.graph l.d (IsOver l.graph l.d l.n l.m) l.best l.t }

abbrev pub decreases-loop-t : goal.decreases-loop-t
decreases-loop-t l = l.count - l.t
