use Rattle.std.proofs.Common.{length}
use Rattle.mm_check_expr.proofs.convert.+convert_all.Given as goal

abbrev pub decreases-convert_all : goal.decreases-convert_all
decreases-convert_all l = length l.params.now
