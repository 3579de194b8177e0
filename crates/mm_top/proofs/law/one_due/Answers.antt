use Rattle.mm_top.proofs.OneDue.{one_due_only}
use Rattle.mm_top.proofs.law.one_due.Goals as goal

pub returns : goal.returns
returns c = one_due_only
