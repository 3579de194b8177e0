use Rattle.std.proofs.Common.{refl}
use Rattle.mm_lower.proofs.Noting.{next_atom, end_atoms}
use Rattle.mm_lower.proofs.temporary.note_atoms.Goals as goal

pub loop-atom-init : goal.loop-atom-init
loop-atom-init c = refl

pub loop-atom-preserved : goal.loop-atom-preserved
loop-atom-preserved c = next_atom c.args.locals.now c.args.atoms.now c.loop-atom.atom-index c.atom-item.result c.loop-atom.locals c.atom-item.is c.loop-atom-test.true c.loop-atom.invariant c.note_atom.new.locals c.in_ok-note_atom.ensures

pub returns : goal.returns
returns c = end_atoms c.args.locals.now c.args.atoms.now c.loop-atom.atom-index c.loop-atom.locals c.loop-atom-test.false c.loop-atom.invariant
