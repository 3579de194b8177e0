use Rattle.std.proofs.Common.{sym, ◌∙◌}
use Rattle.mm_scopes.specs.Names.{named}
use Rattle.mm_check_function.specs.Known.{found_in}
use Rattle.mm_check_function.proofs.Finding.{found_hit, found_miss}
use Rattle.mm_check_function.proofs.known.found.Goals as goal

pub returns-then-are_same : goal.returns-then-are_same
returns-then-are_same c = found_hit (named c.args.name.now c.args.env.now.functions) c.loop-i.i c.nth_named-head.result.now c.args.params.now (found_in c.args.env.now.functions c.args.name.now c.args.params.now)
    c.nth_named-head.ensures c.loop-i.invariant (rw c.as_slice.ensures at (sym c.are_same.ensures ∙ c.if-are_same.true))

pub loop-i-preserved : goal.loop-i-preserved
loop-i-preserved c = found_miss (named c.args.name.now c.args.env.now.functions) c.loop-i.i c.nth_named-head.result.now c.args.params.now (found_in c.args.env.now.functions c.args.name.now c.args.params.now)
    c.nth_named-head.ensures c.loop-i.invariant (rw c.as_slice.ensures at (sym c.are_same.ensures ∙ c.if-are_same.false))
