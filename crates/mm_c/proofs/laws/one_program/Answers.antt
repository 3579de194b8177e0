use Rattle.mm_c.proofs.Once.{one_program}
use Rattle.mm_c.proofs.laws.one_program.Goals as goal

pub returns : goal.returns
returns c = one_program
