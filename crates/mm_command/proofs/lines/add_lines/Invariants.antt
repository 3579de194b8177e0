use Rattle.std.proofs.Common.{◌≡◌, ◌++◌, drop}
use Rattle.std.specs.List.{flat_map}
use Rattle.mm_command.specs.Due.{line_of}
use Rattle.mm_command.proofs.lines.add_lines.Given as goal

abbrev pub invariant-loop-number : goal.invariant-loop-number
invariant-loop-number l =
    l.text.items ++ flat_map line_of (drop l.number-index l.numbers)
    ≡ l.fn.text.items ++ flat_map line_of l.numbers
