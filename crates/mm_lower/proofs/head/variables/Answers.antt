use Rattle.std.proofs.Common.{◌∙◌}
use Rattle.mm_core.specs.View.{function_view}
use Rattle.mm_lower.proofs.Heads.{arguments_within, variables_are}
use Rattle.mm_lower.proofs.head.variables.Goals as goal

pub locals_from-requires : goal.locals_from-requires
locals_from-requires c = arguments_within (function_view c.args.function.now) c.args.types.now c.args.arguments c.requires.types c.requires.arguments

pub returns : goal.returns
returns c = c.in_ok-locals.ensures ∙ variables_are (function_view c.args.function.now) c.args.types.now c.args.arguments c.requires.types c.requires.arguments
