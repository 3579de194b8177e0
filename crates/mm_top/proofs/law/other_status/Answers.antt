use Rattle.mm_top.proofs.OneDue.{other_status_only}
use Rattle.mm_top.proofs.law.other_status.Goals as goal

pub returns : goal.returns
returns c = other_status_only
