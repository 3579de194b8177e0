use Rattle.mm_unit_typing.proofs.Verdict.{one_verdict_only}
use Rattle.mm_unit_typing.proofs.law.one_verdict.Goals as goal

pub returns : goal.returns
returns c = one_verdict_only
