use Rattle.std.proofs.Common.{◌≡◌, ◌≤◌, length, drop}
use Rattle.mm_c.specs.WellFormed.{same_kinds}
use Rattle.mm_c_names.specs.Entries.{params_view}
use Rattle.mm_c_rules.proofs.items.same_kinds.Given as goal

abbrev pub invariant-loop-i : goal.invariant-loop-i
invariant-loop-i l = record {
  within : l.i ≤ length (params_view l.params);
  same : same_kinds l.kinds (params_view l.params) ≡ same_kinds (drop l.i l.kinds) (drop l.i (params_view l.params));
}
