use Rattle.std.proofs.Common.{map, sym, ◌∙◌, ap, subst}
use Rattle.mm_overload.specs.declared.choice.Best.TheVariants as best
use Rattle.mm_syntax.specs.View.{expr_view}
use Rattle.mm_scopes.specs.Names.{named}
use Rattle.mm_checks.specs.Checks.{Gives}
use Rattle.mm_typing.specs.Typed.{typed_view, typeds_view, arg_of}
use Rattle.mm_check_expr.proofs.Choosing.{length-view, named_fits, named_called, named_as}
use Rattle.mm_check_expr.proofs.calls.resolve_named.Goals as goal

pub call_function-requires : goal.call_function-requires
call_function-requires c =
    let et = c.as_slice-2.ensures ∙ c.in_ok-types.ensures ∙ ap (λ a. map arg_of (typeds_view a)) c.as_slice.ensures in
    let ep = ap (map (λ ps. ps.now)) c.as_slice-3.ensures.value ∙ c.in_ok-params.ensures in
    sym (length-view c.args.args) ∙ named_fits c.graph.result.now (named c.args.name.now c.args.env.now.functions) (typeds_view c.args.args) _ _ et ep c.in-One.i c.nth_named.result.now c.in-One.ensures.choice c.nth_named.ensures

pub returns-in-One : goal.returns-in-One
returns-in-One c =
    let fs = named c.args.name.now c.args.env.now.functions in
    let et = c.as_slice-2.ensures ∙ c.in_ok-types.ensures ∙ ap (λ a. map arg_of (typeds_view a)) c.as_slice.ensures in
    let ep = ap (map (λ ps. ps.now)) c.as_slice-3.ensures.value ∙ c.in_ok-params.ensures in
    let called = named_called c.graph.result.now fs (typeds_view c.args.args) _ _ et ep c.in-One.i c.nth_named.result.now (expr_view c.args.e.now) c.in-One.ensures.choice c.nth_named.ensures c.in-One.ensures.is in
    subst (Gives typed_view c.call_function.result) (sym (rw c.graph.ensures at called)) c.call_function.ensures

pub returns-in-None : goal.returns-in-None
returns-in-None c =
    let fs = named c.args.name.now c.args.env.now.functions in
    let et = c.as_slice-2.ensures ∙ c.in_ok-types.ensures ∙ ap (λ a. map arg_of (typeds_view a)) c.as_slice.ensures in
    let ep = ap (map (λ ps. ps.now)) c.as_slice-3.ensures.value ∙ c.in_ok-params.ensures in
    let said = named_as c.graph.result.now fs (typeds_view c.args.args) _ _ et ep (expr_view c.args.e.now) best.None c.in-None.ensures.is in
    subst (Gives typed_view c.refuse.result) (sym (rw c.graph.ensures at said)) (rw (c.start_of.ensures, c.first_text.ensures) at c.refuse.ensures)

pub returns-in-Several : goal.returns-in-Several
returns-in-Several c =
    let fs = named c.args.name.now c.args.env.now.functions in
    let et = c.as_slice-2.ensures ∙ c.in_ok-types.ensures ∙ ap (λ a. map arg_of (typeds_view a)) c.as_slice.ensures in
    let ep = ap (map (λ ps. ps.now)) c.as_slice-3.ensures.value ∙ c.in_ok-params.ensures in
    let said = named_as c.graph.result.now fs (typeds_view c.args.args) _ _ et ep (expr_view c.args.e.now) best.Several c.in-Several.ensures.is in
    subst (Gives typed_view c.refuse-in-Several.result) (sym (rw c.graph.ensures at said)) (rw (c.start_of-in-Several.ensures, c.first_text-in-Several.ensures) at c.refuse-in-Several.ensures)
