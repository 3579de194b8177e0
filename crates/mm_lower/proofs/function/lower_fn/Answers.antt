use Rattle.std.proofs.Common.{rules}
use Rattle.mm_core.specs.View as view
use Rattle.mm_core.specs.View.{stmt_view}
use Rattle.mm_lower_trees.specs.Scopes.{program_of}
use Rattle.mm_lower.proofs.Keeping.{keeps_at_all}
use Rattle.mm_lower.proofs.function.lower_fn.Goals as goal

pub returns-clause-keeps : goal.returns-clause-keeps
returns-clause-keeps c = keeps_at_all (program_of c.args.functions.now) (record { number = c.args.number; function = view.function_view c.args.function.now; body = stmt_view c.args.body.now }) _ (search rules)
