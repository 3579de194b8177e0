use Rattle.std.proofs.Common.{◌≡◌, ℕ, List, length, map, drop}
use Rattle.mm_core.specs.View.{function_view}
use Rattle.mm_complete.specs.Complete.{lacking_from}
use Rattle.mm_complete.specs.Marks.{AreMarks}
use Rattle.mm_complete.proofs.lack.first_lacking.Given as goal

abbrev pub invariant-loop-function : goal.invariant-loop-function
invariant-loop-function l = record {
  number : l.number ≡ l.function-index;
  same : (ns : List ℕ) → AreMarks l.marks (length l.functions) ns →
      lacking_from ns l.function-index (map function_view (drop l.function-index l.functions))
      ≡ lacking_from ns 0 (map function_view l.functions);
}
