use Rattle.std.proofs.Common.{◌≡◌, ◌+◌, ◌*◌, ◌-◌, ◌≤◌, length, drop}
use Rattle.mm_pack.specs.Cells.{product, index_of}
use Rattle.mm_pack.specs.Tables.{slots_at}
use Rattle.mm_pack.proofs.table.Packed.at.Given as goal

abbrev pub invariant-loop-axis : goal.invariant-loop-axis
invariant-loop-axis l = record {
  low : l.axis ≤ length l.place;
  same : l.index * product (drop l.axis l.self.shape)
      + index_of (drop l.axis l.self.shape) (slots_at (drop l.axis l.self.slots) (drop l.axis l.place))
      ≡ index_of l.self.shape (slots_at l.self.slots l.place);
}

abbrev pub decreases-loop-axis : goal.decreases-loop-axis
decreases-loop-axis l = length l.place - l.axis
