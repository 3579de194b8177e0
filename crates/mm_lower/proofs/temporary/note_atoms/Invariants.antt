use Rattle.mm_lower.proofs.Noting.{AtomsSoFar}
use Rattle.mm_lower.proofs.temporary.note_atoms.Given as goal

abbrev pub invariant-loop-atom : goal.invariant-loop-atom
invariant-loop-atom l = AtomsSoFar l.fn.locals l.atoms l.atom-index l.locals
