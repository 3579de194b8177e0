use Rattle.std.proofs.Common.{◌≡◌, ◌++◌, ◌∷◌, [], length, ap, sym, subst, arith}
use Rattle.mm_c.specs.Memory.{fresh}
use Rattle.mm_c.specs.declared.value.CValue.TheVariants.{At}
use Rattle.mm_c_memory.specs.Held.{HoldBlocks}
use Rattle.mm_c_memory.proofs.Memories.{held_push, same_length}
use Rattle.mm_c_memory.proofs.memory.Memory.allocate.Goals as goal

pub returns : goal.returns
returns c = λ m held.
    let n : c.len-number.result ≡ length m = omega (arith, c.len-number.ensures, c.args.self.now.blocks.ok.0, same_length m c.args.self.now.blocks.items held.blocks) in
    (ap (λ q. At q 0) n, record { blocks = subst (λ q. HoldBlocks (m ++ fresh c.args.size ∷ []) q) (sym c.in_ok-push.ensures.items) (held_push m c.args.self.now.blocks.items (fresh c.args.size) c.in_ok-block.block held.blocks c.in_ok-block.ensures) })
