use Rattle.mm_c.proofs.Once.{spelled_is_not_refused, one_refusal}
use Rattle.mm_c.proofs.Counts.{read_or_refused}
use Rattle.mm_c.proofs.laws.refusals.Goals as goal

pub returns : goal.returns
returns c = record { spelled = spelled_is_not_refused; once = one_refusal; judged = read_or_refused }
