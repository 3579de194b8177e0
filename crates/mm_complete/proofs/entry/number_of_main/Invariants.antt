use Rattle.std.proofs.Common.{◌≡◌, ◌+◌, drop, map}
use Rattle.mm_core.specs.Run.{number_of_main}
use Rattle.mm_core.specs.View.{function_view}
use Rattle.mm_complete.proofs.entry.number_of_main.Given as goal

abbrev pub invariant-loop-function : goal.invariant-loop-function
invariant-loop-function l = (l.number ≡ l.function-index) × (l.number + number_of_main (map function_view (drop l.function-index l.functions)) ≡ number_of_main (map function_view l.functions))
