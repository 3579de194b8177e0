use Rattle.std.proofs.Common.{◌+◌, reverse, refl, arith}
use Rattle.std.proofs.lemmas.List.{drop-set-add, take-set-le}
use Rattle.mm_c_machine.proofs.Stack.{pieces-below}
use Rattle.mm_c_machine.proofs.machine.Machine.set.Goals as goal

pub returns-clause-core : goal.returns-clause-core
returns-clause-core c = rw (c.put.ensures, drop-set-add c.args.self.now.frame.base c.args.self.now.values.items c.args.x.place c.fitted.result, pieces-below (reverse c.args.self.now.pending.items) c.args.self.now.frame.base _ c.args.self.now.values.items (take-set-le c.args.self.now.frame.base c.args.self.now.values.items (c.args.self.now.frame.base + c.args.x.place) c.fitted.result (omega arith)), c.fitted.ensures) refl
