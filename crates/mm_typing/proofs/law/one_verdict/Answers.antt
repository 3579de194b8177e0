use Rattle.mm_typing.proofs.Reading.{one_verdict_only}
use Rattle.mm_typing.proofs.law.one_verdict.Goals as goal

pub returns : goal.returns
returns c = one_verdict_only
