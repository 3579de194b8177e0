use Rattle.mm_typing_valid.proofs.Expressions.{typed_is_valid, typed_as_is_valid}
use Rattle.mm_typing_valid.proofs.law.expressions.Goals as goal

pub returns : goal.returns
returns c = record { typed = typed_is_valid; typed_as = typed_as_is_valid }
