use Rattle.std.proofs.Common.{◌≡◌, ◌<◌, length, None, drop, map}
use Rattle.std.specs.Prelude.{IfSome}
use Rattle.mm_overload.specs.Choice.{champion}
use Rattle.mm_overload.proofs.choice.find_champion.Given as goal

abbrev pub invariant-loop-i : goal.invariant-loop-i
invariant-loop-i l = record {
  same : champion l.graph l.args (map (λ c. c.now) l.all) l.held l.i (drop l.i (map (λ c. c.now)
      l.all)) ≡ champion l.graph l.args (map (λ c. c.now) l.all) None 0 (map (λ c. c.now) l.all);
  low : IfSome l.held (λ w. w < length l.all);
}
