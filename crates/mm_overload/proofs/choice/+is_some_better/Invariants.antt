use Rattle.std.proofs.Common.{length}
use Rattle.mm_overload.proofs.choice.+is_some_better.Given as goal

abbrev pub decreases-is_some_better : goal.decreases-is_some_better
decreases-is_some_better l = length l.args.now
