use Rattle.mm_overload.proofs.Choosing.{one_choice_only}
use Rattle.mm_overload.proofs.law.one_choice.Goals as goal

pub returns : goal.returns
returns c = one_choice_only
