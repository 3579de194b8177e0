use Rattle.std.proofs.Common.{ℕ, ◌-◌, ◌<◌, ◌≤◌}
use Rattle.mm_classes.specs.Questions.{node}
use Rattle.mm_lookup.specs.Access.{IsUsedBy}
use Rattle.mm_lookup.proofs.may.may_use.Given as goal

abbrev pub invariant-loop-step : goal.invariant-loop-step
invariant-loop-step l = record { low : l.step ≤ l.count; none : (t : ℕ) → t < l.step → IsUsedBy l.graph l.from.class l.n (node l.graph l.n l.at) l.declared t → ⊥ }

abbrev pub decreases-loop-step : goal.decreases-loop-step
decreases-loop-step l = l.count - l.step
