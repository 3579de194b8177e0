use Rattle.mm_classes.specs.Subobjects.{IsVirtual}
use Rattle.mm_layout.proofs.Virtual.{some_of}
use Rattle.mm_layout.proofs.tags.has_virtual_base.Goals as goal

pub returns : goal.returns
returns c = some_of (IsVirtual c.args.graph.now c.args.c) c.virtual_bases.result.now c.is_empty.result c.is_empty.ensures c.virtual_bases.ensures.each
