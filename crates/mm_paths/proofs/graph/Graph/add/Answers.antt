use Rattle.std.proofs.Common.{refl}
use Rattle.mm_paths.proofs.Looking.{known_from_fine, distinct_from_fine}
use Rattle.mm_paths.proofs.graph.Graph.add.Goals as goal

pub insert-requires : goal.insert-requires
insert-requires c = record {
  here = c.requires.here;
  incomplete = c.requires.open;
  known = known_from_fine c.args.self.now c.args.bases.now c.in_ok-look.ensures.fine;
  once = distinct_from_fine c.args.self.now c.args.bases.now c.in_ok-look.ensures.fine;
  members = c.requires.members;
  typed = c.requires.typed;
}
