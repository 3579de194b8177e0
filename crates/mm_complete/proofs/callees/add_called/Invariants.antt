use Rattle.std.proofs.Common.{◌≡◌, ◌++◌, drop, map}
use Rattle.mm_core.specs.View.{function_view}
use Rattle.mm_complete.specs.Callees.{called_by}
use Rattle.mm_complete.proofs.callees.add_called.Given as goal

abbrev pub invariant-loop-function : goal.invariant-loop-function
invariant-loop-function l =
    l.list ++ called_by (map function_view (drop l.function-index l.functions))
    ≡ l.fn.list ++ called_by (map function_view l.functions)
