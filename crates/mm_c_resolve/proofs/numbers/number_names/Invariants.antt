use Rattle.std.specs.Borrow.{Bor}
use Rattle.std.specs.Str.{bytes_eq}
use Rattle.std.specs.HashMap.{get_by}
use Rattle.std.proofs.Common.{◌≡◌, ◌≤◌, ℕ, List, length, drop}
use Rattle.mm_c_resolve.specs.Numbering.{texts}
use Rattle.mm_c_resolve.proofs.Numbered.{number_from}
use Rattle.mm_c_resolve.proofs.numbers.number_names.Given as goal

abbrev pub invariant-loop-i : goal.invariant-loop-i
invariant-loop-i l = (l.i ≤ length l.names) × (l.count ≡ length l.names) × ((x : List ℕ) → get_by (λ (k : Bor (List ℕ)). bytes_eq x k.now) l.first ≡ number_from l.i (drop l.i (texts l.names)) x)

abbrev pub decreases-loop-i : goal.decreases-loop-i
decreases-loop-i l = l.i
