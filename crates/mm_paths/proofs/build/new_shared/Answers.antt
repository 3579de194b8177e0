use Rattle.std.proofs.Common.{arith}
use Rattle.mm_paths.proofs.Building.{known_at, virtual_bases_more}
use Rattle.mm_paths.proofs.build.new_shared.Goals as goal

pub virtual_bases-requires : goal.virtual_bases-requires
virtual_bases-requires c = known_at c.args.graph.now c.args.bases.now c.loop-n.n c.index-bases-n.result c.index-bases-n.is c.requires.known c.loop-n-test.true

pub loop-n-preserved : goal.loop-n-preserved
loop-n-preserved c = record {
  low = omega arith;
  done = virtual_bases_more c.args.graph.now c.args.bases.now c.loop-n.n c.index-bases-n.result c.loop-n.seen.items c.push_base.new.seen.items
      c.virtual_bases.result.now c.index-bases-n.is c.loop-n-test.true c.loop-n.invariant.done c.virtual_bases.ensures.order c.in_ok-push_base.ensures;
}
