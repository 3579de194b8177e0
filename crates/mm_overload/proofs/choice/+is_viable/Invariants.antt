use Rattle.std.proofs.Common.{length}
use Rattle.mm_overload.proofs.choice.+is_viable.Given as goal

abbrev pub decreases-is_viable : goal.decreases-is_viable
decreases-is_viable l = length l.args.now
