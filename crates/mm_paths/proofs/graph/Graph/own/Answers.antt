use Rattle.std.proofs.Common.{List, ◌∙◌, ap, take, arith}
use Rattle.mm_paths.specs.declared.entry.Node.{Node}
use Rattle.mm_paths.specs.Stored.{paths_in}
use Rattle.mm_paths.proofs.Stored.{own_nodes}
use Rattle.mm_paths.proofs.graph.Graph.own.Goals as goal

pub returns : goal.returns
returns c = ap (λ (ns : List Node). paths_in (take c.parts_of-parts.result.now.own ns)) c.deref.ensures.value
    ∙ own_nodes c.args.self.now c.args.c c.parts_of-parts.result.now c.parts_of-parts.ensures.parts
