use Rattle.std.proofs.Common.{length, ap, ◌∙◌}
use Rattle.mm_core.specs.View.{function_view, stmt_view}
use Rattle.mm_c.specs.View.{block_view, code_view}
use Rattle.mm_lower.proofs.Heads.{block_done}
use Rattle.mm_lower.proofs.function.lower_block.Goals as goal

pub returns : goal.returns
returns c = block_done c.args.functions.now (function_view c.args.function.now) (stmt_view c.args.body.now) (block_view c.in_ok-block.block) c.as_slice-2.result.now c.len-arguments.result c.in_ok-locals.locals (code_view c.in_ok-code.code)
    (c.as_slice-2.ensures ∙ c.in_ok-types.ensures) (c.len-arguments.ensures ∙ ap length c.in_ok-argument_types.ensures) c.in_ok-locals.ensures c.in_ok-code.ensures c.in_ok-block.ensures
