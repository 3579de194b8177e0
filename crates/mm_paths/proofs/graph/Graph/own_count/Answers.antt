use Rattle.std.proofs.Common.{arith}
use Rattle.mm_paths.proofs.Stored.{few_at, own_few}
use Rattle.mm_paths.proofs.graph.Graph.own_count.Goals as goal

pub returns-clause-all : goal.returns-clause-all
returns-clause-all c = few_at c.args.self.now c.args.c c.parts_of.result.now c.parts_of.ensures.parts

pub returns-clause-few : goal.returns-clause-few
returns-clause-few c =
    let a = few_at c.args.self.now c.args.c c.parts_of.result.now c.parts_of.ensures.parts in
    let b = own_few c.args.self.now c.args.c c.parts_of.result.now c.parts_of.ensures.parts in
    let e = c.parts_of.ensures.parts.own in omega arith
