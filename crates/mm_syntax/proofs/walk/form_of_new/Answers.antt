use Rattle.mm_syntax.proofs.Walked.{some_new}
use Rattle.mm_syntax.proofs.walk.form_of_new.Goals as goal

pub returns-in_default : goal.returns-in_default
returns-in_default c = some_new c.args.arguments.now c.in_default.len_at_least
