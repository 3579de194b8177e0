use Rattle.std.proofs.Common.{arith}
use Rattle.mm_paths.proofs.Building.{known_at, depth_more}
use Rattle.mm_paths.proofs.build.new_depth_of.Goals as goal

pub depth-requires : goal.depth-requires
depth-requires c = known_at c.args.graph.now c.args.bases.now c.loop-n.n c.index-bases-n.result c.index-bases-n.is c.requires.known c.loop-n-test.true

pub loop-n-preserved : goal.loop-n-preserved
loop-n-preserved c = record {
  low = omega arith;
  done = depth_more c.args.graph.now c.args.bases.now c.loop-n.n c.index-bases-n.result c.loop-n.depth c.depth.result c.max-depth.result
      c.index-bases-n.is c.loop-n-test.true c.loop-n.invariant.done c.depth.ensures.depth c.max-depth.ensures;
}
