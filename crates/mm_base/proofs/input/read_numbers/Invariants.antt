use Rattle.std.proofs.Common.{◌≡◌, List, ℕ, ◌++◌, length, map}
use Rattle.std.specs.List.{All}
use Rattle.mm_base.specs.Input.{lines, line_value, IsIntLine}
use Rattle.mm_base.proofs.input.read_numbers.Given as goal

abbrev pub invariant-loop-rest : goal.invariant-loop-rest
invariant-loop-rest l =
    (seen : List (List ℕ)) × (lines l.bytes ≡ seen ++ lines l.rest) × All IsIntLine seen
    × (l.numbers.items ≡ map line_value seen)

abbrev pub decreases-loop-rest : goal.decreases-loop-rest
decreases-loop-rest l = length l.rest
