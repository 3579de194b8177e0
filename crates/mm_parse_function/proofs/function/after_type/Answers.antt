use Rattle.mm_grammar.specs.Grammar.{opt}
use Rattle.mm_syntax.specs.Rules.{mark, function_end, after_type}
use Rattle.mm_cursor.proofs.Steps.{err}
use Rattle.mm_parse_function.proofs.FunctionExits.{type_no_mark, type_no_end, type_reads}
use Rattle.mm_parse_function.proofs.function.after_type.Goals as goal

pub returns-in_err-before-clause-reads : goal.returns-in_err-before-clause-reads
returns-in_err-before-clause-reads c =
    err (opt mark) (after_type c.args.nesting) _ _ _ _ _ c.from_residual.ensures.1 c.in_err-before.ensures.reads λ f. type_no_mark c.args.nesting _ _ f

pub returns-in_err-end-clause-reads : goal.returns-in_err-end-clause-reads
returns-in_err-end-clause-reads c =
    err (function_end c.args.nesting) (after_type c.args.nesting) _ _ _ _ _ c.from_residual-in_err-end.ensures.1 c.in_err-end.ensures.reads λ f. type_no_end c.args.nesting _ _ _ _ c.in_ok-before.ensures.reads f

pub returns-clause-reads : goal.returns-clause-reads
returns-clause-reads c =
    type_reads c.args.nesting _ _ _ _ _ _ c.in_ok-before.ensures.reads c.in_ok-end.ensures.reads c.in_ok-declared.ensures
