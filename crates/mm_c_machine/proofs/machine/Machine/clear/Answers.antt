use Rattle.std.proofs.Common.{reverse, refl}
use Rattle.mm_c_machine.proofs.Stack.{pieces-below}
use Rattle.mm_c_machine.proofs.machine.Machine.clear.Goals as goal

pub returns-clause-core : goal.returns-clause-core
returns-clause-core c = rw (c.clear.ensures.frame, pieces-below (reverse c.args.self.now.pending.items) c.args.self.now.frame.base c.clear.new.values.items c.args.self.now.values.items c.clear.ensures.below) refl
