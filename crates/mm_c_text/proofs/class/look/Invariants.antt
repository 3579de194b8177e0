use Rattle.std.proofs.Common.{◌≡◌, map, drop}
use Rattle.mm_c.specs.Tokens.{class_in}
use Rattle.mm_c_text.specs.Classes.{entry_of}
use Rattle.mm_c_text.proofs.class.look.Given as goal

abbrev pub invariant-loop-entry : goal.invariant-loop-entry
invariant-loop-entry l = class_in (map entry_of (drop l.entry-index l.table)) l.text ≡ class_in (map entry_of l.table) l.text
