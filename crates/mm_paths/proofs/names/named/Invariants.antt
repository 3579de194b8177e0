use Rattle.std.proofs.Common.{ℕ, List, ◌≡◌, ◌+◌, ◌<◌, ◌≤◌, length, get_or}
use Rattle.std.specs.Prelude.{None}
use Rattle.std.specs.HashMap.{get_by_text}
use Rattle.mm_classes.specs.Classes.{member_name, IsNextNamed}
use Rattle.mm_paths.proofs.names.named.Given as goal

abbrev pub invariant-loop-k : goal.invariant-loop-k
invariant-loop-k l = record {
  low : l.k ≤ length l.members;
  long : length l.next.items ≡ length l.members;
  start : (cs : List ℕ) → IsNextNamed (get_by_text l.first cs) l.members cs l.k;
  more : (j : ℕ) → l.k ≤ j → j < length l.members → IsNextNamed (get_or l.next.items j None) l.members (member_name l.members j) (j + 1);
}

abbrev pub decreases-loop-k : goal.decreases-loop-k
decreases-loop-k l = l.k
