use Rattle.std.proofs.Common.{map}
use Rattle.mm_c.specs.View.{item_view}
use Rattle.mm_lower_trees.specs.Scopes.{program_of}
use Rattle.mm_lower.specs.Written.{item_of}
use Rattle.mm_emit.proofs.Programs.{SoFar}
use Rattle.mm_emit.proofs.program.lower_others.Given as goal

abbrev pub invariant-loop-function : goal.invariant-loop-function
invariant-loop-function l = SoFar (item_of (program_of l.functions)) l.functions (map item_view l.fn.items) l.function-index l.number (map item_view l.items)
