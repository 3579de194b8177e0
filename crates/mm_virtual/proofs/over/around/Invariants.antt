use Rattle.std.proofs.Common.{◌≡◌, ℕ, ◌<◌, ◌≤◌, ◌-◌, false, get_or, length}
use Rattle.std.specs.Bool.{Decides}
use Rattle.mm_classes.specs.Subobjects.{IsWithin}
use Rattle.mm_classes.specs.Questions.{node}
use Rattle.mm_virtual.proofs.over.around.Given as goal

abbrev pub invariant-loop-t : goal.invariant-loop-t
invariant-loop-t l = record {
  low : l.t ≤ l.count;
  long : length l.around.items ≡ l.t;
  done : (k : ℕ) → k < l.t → Decides (get_or l.around.items k false) (IsWithin l.graph (node l.graph l.d l.n) (node l.graph l.d k));
}

abbrev pub decreases-loop-t : goal.decreases-loop-t
decreases-loop-t l = l.count - l.t
