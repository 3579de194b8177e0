use Rattle.std.proofs.Common.{◌+◌, ◌≤◌, length, ◌*◌}
use Rattle.mm_base.specs.declared.limits.TheConstants.{MAX_UNIT_BYTES}
use Rattle.mm_token.specs.Tokens.{PutsFile}
use Rattle.mm_token.specs.Causes.{AreKept}
use Rattle.mm_token.specs.Unit.{state_of, Agrees, weight}
use Rattle.mm_token.proofs.Reading.{SoFar, Bounds}
use Rattle.mm_token.proofs.read.+reading.Given as goal

abbrev pub decreases-include : goal.decreases-include
decreases-include g l = 4 * l.left

abbrev pub decreases-put : goal.decreases-put
decreases-put g l = 4 * l.left + 1

abbrev pub decreases-read_file : goal.decreases-read_file
decreases-read_file g l = 4 * l.left + 3

abbrev pub decreases-read_text : goal.decreases-read_text
decreases-read_text g l = 4 * l.left + 2

abbrev pub invariant-read_text-pieces : goal.invariant-read_text-pieces
invariant-read_text-pieces g l = record {
  so_far : SoFar (PutsFile (g.F.Files.seen l.fn.files).held l.left) l.text l.scanner.rest.now l.fn.start l.scanner.place l.scanner.fresh (state_of l.fn.unit) (state_of l.unit);
  bounds : Bounds l.text l.scanner.rest.now l.fn.start l.scanner.place;
  counted : weight (state_of l.unit) + l.fn.unit.bytes + length l.scanner.rest.now ≤ weight (state_of l.fn.unit) + l.unit.bytes + length l.text;
  limited : l.unit.bytes ≤ MAX_UNIT_BYTES;
  files : length l.fn.unit.files ≤ length l.unit.files;
  agrees : Agrees l.unit;
  kept : AreKept (g.F.Files.seen l.fn.files) (g.F.Files.seen l.files);
}

abbrev pub decreases-read_text-pieces : goal.decreases-read_text-pieces
decreases-read_text-pieces g l = length l.scanner.rest.now
