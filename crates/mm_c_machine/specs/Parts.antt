-- The elements of a program's arrays, as they are found by an index.
use Rattle.std.specs.Prelude.{ℕ, ℤ, Option}
use Rattle.mm_c.specs.CMeaning.{at_index}
use Rattle.mm_c_placed.specs.declared.tree.Callee.{Callee}
use Rattle.mm_c_placed.specs.declared.tree.PlacedProgram.{PlacedProgram}
use Rattle.mm_c_placed.specs.View.{program_view}
use Rattle.mm_c_placed.specs.Meaning.{element_at, function_of, number_of}

abbrev pub function_in : PlacedProgram → ℕ → Option ℤ → Option Callee
function_in p a = at_index (λ i. function_of (element_at (program_view p) a i))

abbrev pub number_in : PlacedProgram → ℕ → Option ℤ → Option ℤ
number_in p a = at_index (λ i. number_of (element_at (program_view p) a i))
