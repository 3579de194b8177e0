use Rattle.mm_verdict.proofs.Told.{one_verdict_only}
use Rattle.mm_verdict.proofs.law.one_verdict.Goals as goal

pub returns : goal.returns
returns c = one_verdict_only
