use Rattle.mm_typing_bounds.proofs.Expressions.{typed_is_bounded}
use Rattle.mm_typing_bounds.proofs.law.expressions.Goals as goal

pub returns : goal.returns
returns c = typed_is_bounded
