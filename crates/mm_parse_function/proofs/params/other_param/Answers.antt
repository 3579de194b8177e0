use Rattle.mm_grammar.specs.Grammar.{name, alt}
use Rattle.mm_syntax.specs.Rules.{type_name, number_type, class_type, param_end, other_param}
use Rattle.mm_cursor.proofs.Steps.{err}
use Rattle.std.proofs.Common.{arith}
use Rattle.mm_parse_function.proofs.ParamExits.{other_no_virtual_type, other_no_virtual_end, other_virtual, other_no_type, other_no_end, other_plain}
use Rattle.mm_parse_function.proofs.params.other_param.Goals as goal

pub returns-in_err-kind-clause-reads : goal.returns-in_err-kind-clause-reads
returns-in_err-kind-clause-reads c =
    err (name type_name) other_param _ _ _ _ _ c.from_residual.ensures.1 c.in_err-kind.ensures.reads λ f. other_no_virtual_type _ _ _ _ c.in-Some.ensures c.in_err-kind.ensures.shorter f

pub returns-in_err-end-clause-reads : goal.returns-in_err-end-clause-reads
returns-in_err-end-clause-reads c =
    err param_end other_param _ _ _ _ _ c.from_residual-in_err-end.ensures.1 c.in_err-end.ensures.reads λ f. other_no_virtual_end _ _ _ _ _ _ c.in-Some.ensures (omega (arith, c.in_err-end.ensures.shorter, c.in_ok-kind.ensures.shorter)) c.in_ok-kind.ensures.reads f

pub returns-in-Some-clause-reads : goal.returns-in-Some-clause-reads
returns-in-Some-clause-reads c =
    other_virtual _ _ _ _ _ _ _ _ c.in-Some.ensures c.in_ok-kind.ensures.reads c.in_ok-end.ensures.reads c.in_ok-param.ensures

pub returns-in_err-kind-2-clause-reads : goal.returns-in_err-kind-2-clause-reads
returns-in_err-kind-2-clause-reads c =
    err (alt number_type class_type) other_param _ _ _ _ _ c.from_residual-in_err-kind-2.ensures.1 c.in_err-kind-2.ensures.reads λ f. other_no_type _ _ _ c.in_default.ensures f

pub returns-in_err-end-2-clause-reads : goal.returns-in_err-end-2-clause-reads
returns-in_err-end-2-clause-reads c =
    err param_end other_param _ _ _ _ _ c.from_residual-in_err-end-2.ensures.1 c.in_err-end-2.ensures.reads λ f. other_no_end _ _ _ _ _ c.in_default.ensures c.in_ok-kind-2.ensures.reads f

pub returns-clause-reads : goal.returns-clause-reads
returns-clause-reads c =
    other_plain _ _ _ _ _ _ _ c.in_default.ensures c.in_ok-kind-2.ensures.reads c.in_ok-end-2.ensures.reads c.in_ok-param-2.ensures
