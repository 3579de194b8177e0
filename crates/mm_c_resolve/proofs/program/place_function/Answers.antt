use Rattle.std.proofs.Common.{◌∙◌, ap}
use Rattle.mm_c.specs.WellFormed.{kinds_of}
use Rattle.mm_c_placed.specs.View.{code_view}
use Rattle.mm_c_resolve.specs.Named.{numbers_in}
use Rattle.mm_c_resolve.proofs.Programs.{function_placed}
use Rattle.mm_c_resolve.proofs.program.place_function.Goals as goal

pub returns : goal.returns
returns c =
    function_placed (numbers_in c.args.globals.now) c.args.function.now c.in_ok-locals.locals c.is_inline.result c.in_ok-params.params (code_view c.in_ok-body.body)
    c.in_ok-locals.ensures c.is_inline.ensures (c.in_ok-params.ensures ∙ ap kinds_of c.as_slice.ensures) c.in_ok-body.ensures
