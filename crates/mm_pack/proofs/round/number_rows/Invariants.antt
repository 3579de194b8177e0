use Rattle.std.proofs.Common.{◌≡◌, ◌≤◌, length, map, All}
use Rattle.mm_pack.specs.Rounds.{AreNumbered}
use Rattle.mm_pack.proofs.round.number_rows.Given as goal

abbrev pub invariant-loop-i : goal.invariant-loop-i
invariant-loop-i l = record {
  done : AreNumbered l.cells l.width l.i (map (λ r. r.now) l.seen.keys) l.slots.items;
  few : length l.seen.keys ≤ l.i;
  wide : All (λ r. length r.now ≡ l.width) l.seen.keys;
}
