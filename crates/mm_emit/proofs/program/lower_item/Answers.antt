use Rattle.mm_emit.proofs.Programs.{writable_at}
use Rattle.mm_emit.proofs.program.lower_item.Goals as goal

pub lower_fn-requires-clause-writable : goal.lower_fn-requires-clause-writable
lower_fn-requires-clause-writable c = writable_at c.args.functions.now c.args.number c.args.function.now c.in-Some.body c.requires.writable c.requires.there c.in-Some.is
