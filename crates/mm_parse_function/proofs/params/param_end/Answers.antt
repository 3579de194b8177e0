use Rattle.mm_grammar.specs.Grammar.{opt}
use Rattle.mm_syntax.specs.Rules.{mark, param_end}
use Rattle.mm_cursor.proofs.Steps.{err}
use Rattle.mm_parse_function.proofs.ParamExits.{param_end_no_mark, param_end_reads}
use Rattle.mm_parse_function.proofs.params.param_end.Goals as goal

pub returns-in_err-before-clause-reads : goal.returns-in_err-before-clause-reads
returns-in_err-before-clause-reads c =
    err (opt mark) param_end _ _ _ _ _ c.from_residual.ensures.1 c.in_err-before.ensures.reads λ f. param_end_no_mark _ _ f

pub returns-clause-reads : goal.returns-clause-reads
returns-clause-reads c =
    param_end_reads _ _ _ _ _ _ c.in_ok-before.ensures.reads c.eat-word.ensures c.in_ok-param_end.ensures
