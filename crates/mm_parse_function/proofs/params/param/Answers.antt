use Rattle.std.proofs.Common.{subst}
use Rattle.mm_grammar.specs.Grammar.{name, opt, Reads}
use Rattle.mm_syntax.specs.Rules.{units, param, void_end, other_param}
use Rattle.mm_cursor.proofs.Steps.{err, tail}
use Rattle.mm_parse_function.proofs.ParamExits.{param_fails, param_no_end, param_void, param_other, param_no_other}
use Rattle.mm_parse_function.proofs.params.param.Goals as goal

pub returns-in_err-end-clause-reads : goal.returns-in_err-end-clause-reads
returns-in_err-end-clause-reads c =
    err (opt void_end) (name param) _ _ _ _ _ c.from_residual.ensures.1 c.in_err-end.ensures.reads λ f. param_fails _ _ _ _ c.in-Some.ensures c.in_err-end.ensures.shorter f

pub returns-in-Some-2-clause-reads : goal.returns-in-Some-2-clause-reads
returns-in-Some-2-clause-reads c =
    param_void _ _ _ _ _ _ c.in-Some.ensures (subst (λ o. Reads units (opt void_end) c.eat.new.self o c.void_end.new.cursor) c.in-Some-2.is c.in_ok-end.ensures.reads) c.in_ok-void_param.ensures

pub returns-in-Some-clause-reads : goal.returns-in-Some-clause-reads
returns-in-Some-clause-reads c =
    param_no_end _ _ _ _ c.in-Some.ensures c.in_ok-end.ensures.shorter (subst (λ o. Reads units (opt void_end) c.eat.new.self o c.void_end.new.cursor) c.in_default-2.is c.in_ok-end.ensures.reads)

pub returns-clause-reads : goal.returns-clause-reads
returns-clause-reads c =
    tail other_param (name param) _ _ _ _ c.other_param.ensures.reads (λ v a. param_other _ _ _ v c.in_default.ensures a) (λ f. param_no_other _ _ _ c.in_default.ensures f)
