use Rattle.mm_paths.proofs.Starts.{start_is, as_long_as}
use Rattle.mm_paths.proofs.graph.Graph.start.Goals as goal

pub start_among-requires-clause-long : goal.start_among-requires-clause-long
start_among-requires-clause-long c = as_long_as c.args.self.now c.args.c c.parts_of-parts.result.now c.as_slice.result.now c.as_slice-2.result.now
    c.parts_of-parts.ensures.parts c.as_slice.ensures.value c.as_slice-2.ensures.value

pub returns : goal.returns
returns c = start_is c.args.self.now c.args.c c.args.v c.start_among.result c.parts_of-parts.result.now c.as_slice.result.now c.as_slice-2.result.now
    c.parts_of-parts.ensures.parts c.as_slice.ensures.value c.as_slice-2.ensures.value c.start_among.ensures
