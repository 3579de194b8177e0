use Rattle.std.proofs.Common.{◌+◌, ◌-◌, ◌≤◌, length}
use Rattle.mm_base.specs.declared.limits.TheConstants.{MAX_INPUT_BYTES}
use Rattle.mm_base.specs.Input.{Taken}
use Rattle.mm_base.proofs.input.take_whole.Given as goal

abbrev pub invariant-loop-buffer : goal.invariant-loop-buffer
invariant-loop-buffer g l = record {
  taken : Taken l.bytes.items (g.I.Source.seen l.initial.input) (g.I.Source.seen l.input);
  within : length l.bytes.items ≤ MAX_INPUT_BYTES + 1;
  later : (g.I.Source.seen l.initial.input).faults ≤ (g.I.Source.seen l.input).faults;
}

abbrev pub decreases-loop-buffer : goal.decreases-loop-buffer
decreases-loop-buffer g l = MAX_INPUT_BYTES + 1 - length l.bytes.items
