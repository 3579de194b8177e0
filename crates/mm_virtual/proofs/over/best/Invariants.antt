use Rattle.std.proofs.Common.{◌-◌, ◌≤◌}
use Rattle.mm_virtual.specs.Kept.{IsBestOf}
use Rattle.mm_virtual.proofs.over.best.Given as goal

abbrev pub invariant-loop-t : goal.invariant-loop-t
invariant-loop-t l = record { low : l.t ≤ l.count; so_far : IsBestOf l.graph l.d l.n l.m l.best l.t }

abbrev pub decreases-loop-t : goal.decreases-loop-t
decreases-loop-t l = l.count - l.t
