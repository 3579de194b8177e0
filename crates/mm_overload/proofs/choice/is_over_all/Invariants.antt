use Rattle.std.proofs.Common.{◌≡◌, ◌&&◌, drop, map}
use Rattle.mm_overload.specs.Choice.{beats_all}
use Rattle.mm_overload.proofs.choice.is_over_all.Given as goal

abbrev pub invariant-loop-i : goal.invariant-loop-i
invariant-loop-i l = (l.over && beats_all l.graph l.args l.w l.best l.i (drop l.i (map (λ c.
    c.now) l.all))) ≡ beats_all l.graph l.args l.w l.best 0 (map (λ c. c.now) l.all)
