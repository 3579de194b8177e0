use Rattle.std.proofs.Common.{◌∙◌}
use Rattle.mm_paths.proofs.Building.{all_new_more}
use Rattle.mm_paths.proofs.build.push_all_new.Goals as goal

pub loop-x-preserved : goal.loop-x-preserved
loop-x-preserved c = c.in_ok-push_new.ensures ∙ all_new_more c.loop-x.seen.items c.args.xs.now c.args.seen.now.items c.loop-x.x-index
    c.x-item.result c.loop-x-test.true c.loop-x.invariant c.x-item.result c.x-item.is
