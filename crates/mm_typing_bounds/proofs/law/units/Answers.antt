use Rattle.mm_typing_bounds.proofs.Units.{typed_unit_is_bounded}
use Rattle.mm_typing_bounds.proofs.law.units.Goals as goal

pub returns : goal.returns
returns c = typed_unit_is_bounded
