use Rattle.std.proofs.Common.{map}
use Rattle.mm_pack.specs.Rounds.{AreTurned}
use Rattle.mm_pack.proofs.round.turn.Given as goal

abbrev pub invariant-loop-column : goal.invariant-loop-column
invariant-loop-column l = AreTurned (map (λ r. r.now) l.rows) l.column l.cells.items
