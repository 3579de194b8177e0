use Rattle.std.proofs.Common.{◌≡◌, ◌++◌, take, flat_map}
use Rattle.mm_c.specs.Printing.{text_of, local_tokens}
use Rattle.mm_c_print.proofs.statements.put_locals.Given as goal

abbrev pub invariant-loop-local : goal.invariant-loop-local
invariant-loop-local l = l.out.items ≡ l.initial.out.items ++ text_of (flat_map local_tokens (take l.local-index l.locals))
