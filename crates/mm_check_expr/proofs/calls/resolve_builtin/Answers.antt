use Rattle.std.proofs.Common.{[], ◌∷◌, map, sym, ◌∙◌, ap}
use Rattle.mm_typing.specs.Typed.{typeds_view, arg_of}
use Rattle.mm_check_expr.proofs.Choosing.{length-view, builtin_fits}
use Rattle.mm_check_expr.proofs.calls.resolve_builtin.Goals as goal

pub call_builtin-requires : goal.call_builtin-requires
call_builtin-requires c =
    let et = c.as_slice-2.ensures ∙ c.in_ok-types.ensures ∙ ap (λ a. map arg_of (typeds_view a)) c.as_slice.ensures in
    let ep = ap (λ ps. ps ∷ []) (c.as_slice-3.ensures ∙ c.in_ok-params.ensures) in
    sym (length-view c.args.args) ∙ builtin_fits c.graph.result.now c.args.which (typeds_view c.args.args) _ _ c.in-One.field-0 et ep c.in-One.ensures.choice
