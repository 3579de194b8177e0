use Rattle.mm_c.proofs.Printed.{written_is_spelled}
use Rattle.mm_c.proofs.laws.written_is_spelled.Goals as goal

pub returns : goal.returns
returns c = written_is_spelled
