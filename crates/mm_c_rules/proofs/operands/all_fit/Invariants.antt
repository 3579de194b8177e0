use Rattle.std.proofs.Common.{◌≡◌, ◌≤◌, length, drop}
use Rattle.mm_c.specs.WellFormed.{all_fit}
use Rattle.mm_c_names.specs.Entries.{params_view}
use Rattle.mm_c_rules.specs.Scopes.{here_view}
use Rattle.mm_c_rules.proofs.operands.all_fit.Given as goal

abbrev pub invariant-loop-i : goal.invariant-loop-i
invariant-loop-i l = record {
  within : l.i ≤ length (params_view l.params);
  same : all_fit (here_view l.here) (params_view l.params) l.atoms ≡ all_fit (here_view l.here) (drop l.i (params_view l.params)) (drop l.i l.atoms);
}
