use Rattle.std.proofs.Common.{◌≡◌, subst, arith}
use Rattle.mm_c_memory.specs.Held.{WithInside}
use Rattle.mm_c_memory.proofs.memory.put_inside.Goals as goal

pub returns : goal.returns
returns c =
    let e : c.loop-i.i ≡ c.args.to = let a = c.loop-i.auto.i-end c.requires.order in let b = c.loop-i-test.false in omega (arith, a, b) in
    subst (λ q. WithInside c.args.halves.now.items c.args.from q c.loop-i.halves.items) e c.loop-i.invariant
