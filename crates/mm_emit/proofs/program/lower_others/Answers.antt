use Rattle.std.proofs.Common.{map}
use Rattle.mm_c.specs.View.{item_view}
use Rattle.mm_lower_trees.specs.Scopes.{program_of}
use Rattle.mm_lower.specs.Written.{item_of}
use Rattle.mm_emit.proofs.Programs.{there, next}
use Rattle.mm_emit.proofs.program.lower_others.Goals as goal

pub lower_other-requires-clause-there : goal.lower_other-requires-clause-there
lower_other-requires-clause-there c = there (item_of (program_of c.args.functions.now)) c.args.functions.now (map item_view c.args.items.now) c.loop-function.function-index c.loop-function.number c.function-item.result (map item_view c.loop-function.items) c.function-item.is c.loop-function-test.true c.loop-function.invariant

pub loop-function-preserved : goal.loop-function-preserved
loop-function-preserved c = next (item_of (program_of c.args.functions.now)) c.args.functions.now (map item_view c.args.items.now) c.loop-function.function-index c.loop-function.number c.function-item.result (map item_view c.loop-function.items) c.function-item.is c.loop-function-test.true c.loop-function.invariant (map item_view c.lower_other.new.items) c.in_ok-lower_other.ensures
