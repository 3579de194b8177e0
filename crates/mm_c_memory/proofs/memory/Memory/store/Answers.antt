use Rattle.std.proofs.Common.{◌<◌, ◌≤◌, false, length, ap, sym, subst, refl, ◌∙◌, arith}
use Rattle.mm_c.specs.Memory.{store}
use Rattle.mm_c_memory.specs.Held.{Stores}
use Rattle.mm_c_memory.proofs.Memories.{held_at, stores_at, no_store}
use Rattle.mm_c_memory.proofs.memory.Memory.store.Goals as goal

pub returns-then-number-len : goal.returns-then-number-len
returns-then-number-len c = λ m held.
    let below : c.in-At.number < length c.args.self.now.blocks.items = omega (arith, c.if-number-len.true, c.len.ensures, c.args.self.now.blocks.ok.0) in
    let at = held_at m c.args.self.now.blocks.items c.in-At.number c.index_mut.result.now held.blocks below c.index_mut.ensures.value in
    stores_at c.store.result m c.args.self.now.blocks.items c.args.pointer c.in-At.number c.args.kind c.in-At.first c.args.offset c.args.value at.block c.store.new.self _ c.in-At.is held.blocks at.there (c.store.ensures at.block at.held) refl

pub returns-else-number-len : goal.returns-else-number-len
returns-else-number-len c = λ m held.
    let past : length c.args.self.now.blocks.items ≤ c.in-At.number = omega (arith, c.if-number-len.false, c.len.ensures, c.args.self.now.blocks.ok.0) in
    subst (λ o. Stores false o c.args.self.now) (sym (ap (λ p. store m c.args.kind p c.args.offset c.args.value) c.in-At.is ∙ no_store m c.args.self.now.blocks.items c.args.kind c.in-At.number c.in-At.first c.args.offset c.args.value held.blocks past)) tt
