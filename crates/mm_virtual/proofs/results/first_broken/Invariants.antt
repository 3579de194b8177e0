use Rattle.std.proofs.Common.{◌-◌, ◌≡◌, ◌<◌, ◌≤◌, ℕ, length, Some}
use Rattle.std.specs.Prelude.{slice_get}
use Rattle.mm_classes.specs.declared.class.Member.{Member}
use Rattle.mm_virtual.specs.Results.{IsBroken}
use Rattle.mm_virtual.proofs.results.first_broken.Given as goal

abbrev pub invariant-loop-k : goal.invariant-loop-k
invariant-loop-k l = record { none : (j : ℕ) (x : Member) → j < l.k → slice_get l.members j ≡ Some x → IsBroken l.graph l.fn.c x → ⊥ }

abbrev pub decreases-loop-k : goal.decreases-loop-k
decreases-loop-k l = length l.members - l.k
