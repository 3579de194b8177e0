use Rattle.std.proofs.Common.{◌<◌, ◌≤◌, length, Some, ap, sym, ◌∙◌, arith}
use Rattle.mm_c_memory.specs.Held.{size_in}
use Rattle.mm_c_memory.proofs.Memories.{held_at, none_past}
use Rattle.mm_c_memory.proofs.memory.Memory.size_of.Goals as goal

pub returns-then-number-len : goal.returns-then-number-len
returns-then-number-len c = λ m held.
    let below : c.args.number < length c.args.self.now.blocks.items = omega (arith, c.if-number-len.true, c.len.ensures, c.args.self.now.blocks.ok.0) in
    let at = held_at m c.args.self.now.blocks.items c.args.number c.index.result.now held.blocks below c.index.ensures in
    ap Some at.held.size ∙ sym (ap size_in at.there)

pub returns-else-number-len : goal.returns-else-number-len
returns-else-number-len c = λ m held.
    let past : length c.args.self.now.blocks.items ≤ c.args.number = omega (arith, c.if-number-len.false, c.len.ensures, c.args.self.now.blocks.ok.0) in
    sym (ap size_in (none_past m c.args.self.now.blocks.items c.args.number held.blocks past))
