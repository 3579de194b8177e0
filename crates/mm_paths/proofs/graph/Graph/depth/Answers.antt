use Rattle.std.proofs.Common.{arith}
use Rattle.mm_classes.proofs.Depth.{deepens}
use Rattle.mm_paths.proofs.graph.Graph.depth.Goals as goal

pub overflow_cast-result : goal.overflow_cast-result
overflow_cast-result c =
    let d = (deepens c.args.self.now c.parts_of.ensures.valid c.args.c).low in
    let a = c.parts_of.ensures.parts.depth in let k = c.parts_of.ensures.count in
    omega arith

pub returns-clause-bases : goal.returns-clause-bases
returns-clause-bases c = deepens c.args.self.now c.parts_of.ensures.valid c.args.c
