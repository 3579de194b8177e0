use Rattle.std.proofs.Common.{◌≡◌, ◌++◌, take, flat_map}
use Rattle.mm_c.specs.Printing.{text_of, next_of, atom_tokens}
use Rattle.mm_c_print.proofs.tokens.put_atoms.Given as goal

abbrev pub invariant-loop-atom : goal.invariant-loop-atom
invariant-loop-atom l = l.out.items ≡ l.initial.out.items ++ text_of (flat_map (next_of atom_tokens) (take l.atom-index l.others))
