use Rattle.std.proofs.Common.{◌+◌, ◌<◌, ◌≤◌, length, ap, sym, ◌∙◌, arith}
use Rattle.mm_c.specs.Memory.{load, load_in}
use Rattle.mm_c_memory.proofs.Memories.{held_at, no_load}
use Rattle.mm_c_memory.proofs.memory.Memory.load.Goals as goal

pub returns-then-number-len : goal.returns-then-number-len
returns-then-number-len c = λ m held.
    let below : c.in-At.number < length c.args.self.now.blocks.items = omega (arith, c.if-number-len.true, c.len.ensures, c.args.self.now.blocks.ok.0) in
    let at = held_at m c.args.self.now.blocks.items c.in-At.number c.index.result.now held.blocks below c.index.ensures in
    c.load.ensures at.block at.held ∙ sym (ap (λ p. load m c.args.kind p c.args.offset) c.in-At.is ∙ ap (load_in c.args.kind (c.in-At.first + c.args.offset)) at.there)

pub returns-else-number-len : goal.returns-else-number-len
returns-else-number-len c = λ m held.
    let past : length c.args.self.now.blocks.items ≤ c.in-At.number = omega (arith, c.if-number-len.false, c.len.ensures, c.args.self.now.blocks.ok.0) in
    sym (ap (λ p. load m c.args.kind p c.args.offset) c.in-At.is ∙ no_load m c.args.self.now.blocks.items c.args.kind c.in-At.number c.in-At.first c.args.offset held.blocks past)
