use Rattle.mm_typing_bounds.proofs.Limits.{unit_is_small}
use Rattle.mm_typing_bounds.proofs.Units.{typed_unit_is_shallow}
use Rattle.mm_typing_bounds.proofs.law.shallow.Goals as goal

pub returns : goal.returns
returns c = record { small = unit_is_small; shallow = typed_unit_is_shallow }
