use Rattle.std.proofs.Common.{ℕ, ◌-◌, ◌<◌, ◌≤◌}
use Rattle.mm_classes.specs.Questions.{node}
use Rattle.mm_lookup.specs.Access.{HasAccessBy}
use Rattle.mm_lookup.proofs.uses.has_access_in.Given as goal

abbrev pub invariant-loop-way : goal.invariant-loop-way
invariant-loop-way l = record { low : l.way ≤ l.count; none : (r : ℕ) → r < l.way → HasAccessBy l.graph l.f l.n (node l.graph l.n l.at) l.declared r → ⊥ }

abbrev pub decreases-loop-way : goal.decreases-loop-way
decreases-loop-way l = l.count - l.way
