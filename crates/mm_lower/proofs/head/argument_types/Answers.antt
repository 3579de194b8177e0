use Rattle.std.proofs.Common.{ap, ◌∙◌}
use Rattle.mm_core.specs.Heads.{types_of_params}
use Rattle.mm_core.specs.View.{function_view}
use Rattle.mm_lower.proofs.Heads.{args_plain}
use Rattle.mm_lower.proofs.head.argument_types.Goals as goal

pub returns : goal.returns
returns c = c.in_ok-types.ensures ∙ ap types_of_params c.as_slice.ensures ∙ args_plain (function_view c.args.function.now)
