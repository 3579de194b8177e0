use Rattle.std.proofs.Common.{◌≡◌, ◌+◌, length}
use Rattle.mm_c.specs.Tokens.{end_from}
use Rattle.mm_c_text.specs.Places.{at, Fits}
use Rattle.mm_c_text.proofs.place.end.Given as goal

abbrev pub invariant-loop-rest : goal.invariant-loop-rest
invariant-loop-rest l = record {
  value : end_from (at l.here) l.rest ≡ end_from (at l.fn.place) l.bytes;
  room : Fits l.here (l.left + length l.rest);
}

abbrev pub decreases-loop-rest : goal.decreases-loop-rest
decreases-loop-rest l = length l.rest
