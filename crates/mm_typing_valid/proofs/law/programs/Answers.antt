use Rattle.mm_typing_valid.proofs.Called.{typed_unit_is_scalar}
use Rattle.mm_typing_valid.proofs.law.programs.Goals as goal

pub returns : goal.returns
returns c = typed_unit_is_scalar
