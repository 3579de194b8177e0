use Rattle.std.proofs.Common.{◌≡◌, map, drop}
use Rattle.mm_grammar.specs.Grammar.{has}
use Rattle.mm_syntax.specs.Symbols.{number_of}
use Rattle.mm_cursor.proofs.is_among.Given as goal

abbrev pub invariant-loop-symbol : goal.invariant-loop-symbol
invariant-loop-symbol l = has l.next (map number_of (drop l.symbol-index l.symbols)) ≡ has l.next (map number_of l.symbols)
