use Rattle.mm_check_function.proofs.Finding.{not_known, is_known}
use Rattle.mm_check_function.proofs.known.find.Goals as goal

pub returns-in-None : goal.returns-in-None
returns-in-None c = not_known _ _ _ _ c.requires c.in-None.ensures

pub returns-in-Some : goal.returns-in-Some
returns-in-Some c = is_known _ _ _ _ c.requires _ c.in-Some.ensures
