use Rattle.std.proofs.Common.{◌≡◌, ◌≤◌, ◌-◌, drop, length}
use Rattle.mm_c.specs.Tokens.{tokens_from}
use Rattle.mm_c_text.specs.Places.{at, Fits}
use Rattle.mm_c_text.proofs.scan.skip_white.Given as goal

abbrev pub invariant-loop-count : goal.invariant-loop-count
invariant-loop-count l = record {
  same : tokens_from (at l.place) (drop l.count l.bytes) ≡ tokens_from (at l.fn.start) l.bytes;
  room : Fits l.place (length l.bytes - l.count);
  within : l.count ≤ length l.bytes;
}

abbrev pub decreases-loop-count : goal.decreases-loop-count
decreases-loop-count l = length l.bytes - l.count
