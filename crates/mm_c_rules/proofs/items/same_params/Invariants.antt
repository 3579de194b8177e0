use Rattle.std.proofs.Common.{◌≡◌, ◌≤◌, length, drop}
use Rattle.mm_c.specs.WellFormed.{same_params}
use Rattle.mm_c_rules.proofs.items.same_params.Given as goal

abbrev pub invariant-loop-i : goal.invariant-loop-i
invariant-loop-i l = record {
  within : l.i ≤ length l.second;
  same : same_params l.first l.second ≡ same_params (drop l.i l.first) (drop l.i l.second);
}
