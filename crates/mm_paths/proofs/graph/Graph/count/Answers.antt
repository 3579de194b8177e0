use Rattle.mm_classes.proofs.Laws.{nodes_stand}
use Rattle.mm_paths.proofs.graph.Graph.count.Goals as goal

pub returns-clause-nodes : goal.returns-clause-nodes
returns-clause-nodes c = nodes_stand c.args.self.now c.parts_of.ensures.valid c.args.d
