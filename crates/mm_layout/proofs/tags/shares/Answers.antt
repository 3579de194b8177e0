use Rattle.std.proofs.Common.{◌<◌, length, arith}
use Rattle.mm_layout.proofs.Virtual.{base_low}
use Rattle.mm_layout.proofs.tags.shares.Goals as goal

pub tag_at-requires : goal.tag_at-requires
tag_at-requires c =
    let low : c.index-bases-n.result.class < length c.args.graph.now
    = base_low c.args.graph.now c.requires.valid c.args.c c.loop-n.n c.index-bases-n.result c.bases-bases.result.now c.bases-bases.ensures c.loop-n-test.true c.index-bases-n.is in
    omega (arith, c.requires.tags)
