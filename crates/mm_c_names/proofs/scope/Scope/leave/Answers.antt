use Rattle.std.proofs.Common.{drop, ap, ◌∙◌}
use Rattle.mm_c_names.proofs.Shown.{drop_one}
use Rattle.mm_c_names.proofs.scope.Scope.leave.Goals as goal

pub loop-preserved : goal.loop-preserved
loop-preserved c = c.in_ok-hide.ensures ∙ ap (drop 1) c.loop.invariant ∙ drop_one c.args.self.now c.loop.counter
