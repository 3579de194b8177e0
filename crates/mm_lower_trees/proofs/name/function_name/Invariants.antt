use Rattle.std.proofs.Common.{◌≡◌, ◌∷◌, ◌++◌, drop}
use Rattle.std.specs.Prelude.{string_bytes}
use Rattle.std.specs.List.{filter}
use Rattle.mm_c.specs.Tokens.{is_word_byte}
use Rattle.mm_simulate.specs.Names.{numeral}
use Rattle.mm_lower_trees.proofs.name.function_name.Given as goal

abbrev pub invariant-loop-byte : goal.invariant-loop-byte
invariant-loop-byte l = string_bytes l.name ++ filter is_word_byte (drop l.byte-index l.byte-items) ≡ 102 ∷ (numeral l.fn.number ++ 95 ∷ filter is_word_byte l.byte-items)
