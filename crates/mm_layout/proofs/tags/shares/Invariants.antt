use Rattle.std.proofs.Common.{◌≡◌, ◌≤◌, ◌-◌, ◌&&◌, false, not, take, length}
use Rattle.std.specs.List.{list_any}
use Rattle.mm_classes.specs.declared.class.Base.{Base}
use Rattle.mm_layout.specs.Layouts.{test_of}
use Rattle.mm_layout.proofs.tags.shares.Given as goal

abbrev pub invariant-loop-n : goal.invariant-loop-n
invariant-loop-n l = record {
  low : l.n ≤ length l.bases;
  none : list_any (λ (b : Base). not b.shared && test_of l.tags b.class) (take l.n l.bases) ≡ false;
}

abbrev pub decreases-loop-n : goal.decreases-loop-n
decreases-loop-n l = length l.bases - l.n
