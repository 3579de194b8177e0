use Rattle.mm_syntax.specs.Rules.{some_params, other_param}
use Rattle.mm_cursor.proofs.Steps.{err, tail}
use Rattle.mm_parse_function.specs.Parts.{void_first, behind}
use Rattle.mm_parse_function.proofs.ParamExits.{some_void, some_no_void, some_no_first, some_no_more, some_reads}
use Rattle.mm_parse_function.proofs.params.some_params.Goals as goal

pub returns-in-Some-clause-reads : goal.returns-in-Some-clause-reads
returns-in-Some-clause-reads c =
    tail (void_first c.in-Some.word.now) some_params _ _ _ _ c.after_void.ensures.reads (λ v a. some_void _ _ _ c.in-Some.word.now v c.in-Some.ensures a) (λ f. some_no_void _ _ _ c.in-Some.word.now c.in-Some.ensures c.after_void.ensures.shorter f)

pub returns-in_err-first-clause-reads : goal.returns-in_err-first-clause-reads
returns-in_err-first-clause-reads c =
    err other_param some_params _ _ _ _ _ c.from_residual.ensures.1 c.in_err-first.ensures.reads λ f. some_no_first _ _ _ c.in_default.ensures f

pub returns-in_err-list-clause-reads : goal.returns-in_err-list-clause-reads
returns-in_err-list-clause-reads c =
    err (behind c.in_ok-first.first) some_params _ _ _ _ _ c.from_residual-in_err-list.ensures.1 c.in_err-list.ensures.reads λ f. some_no_more _ _ _ _ _ c.in_default.ensures c.in_ok-first.ensures.reads f

pub returns-clause-reads : goal.returns-clause-reads
returns-clause-reads c =
    some_reads _ _ _ _ _ _ _ c.in_default.ensures c.in_ok-first.ensures.reads c.in_ok-list.ensures.reads c.in_ok-params.ensures
