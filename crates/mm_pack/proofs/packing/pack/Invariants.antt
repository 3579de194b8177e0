use Rattle.std.proofs.Common.{take, drop}
use Rattle.mm_pack.specs.Inside.{lists_in}
use Rattle.mm_pack.proofs.Axes.{ArePacked}
use Rattle.mm_pack.proofs.packing.pack.Given as goal

abbrev pub invariant-loop-places : goal.invariant-loop-places
invariant-loop-places l =
    ArePacked l.shape (take l.places-index l.shape) (drop l.places-index l.shape) l.lengths.items (lists_in l.slots.items) l.fn.cells l.left.items
