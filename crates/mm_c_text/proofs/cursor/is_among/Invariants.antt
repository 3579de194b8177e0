use Rattle.std.proofs.Common.{◌≡◌, map, drop}
use Rattle.mm_grammar.specs.Grammar.{has}
use Rattle.mm_c_text.specs.Classes.{number_of}
use Rattle.mm_c_text.proofs.cursor.is_among.Given as goal

abbrev pub invariant-loop-class : goal.invariant-loop-class
invariant-loop-class l = has l.next (map number_of (drop l.class-index l.classes)) ≡ has l.next (map number_of l.classes)
