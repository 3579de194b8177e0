use Rattle.std.proofs.Common.{[], ◌∷◌}
use Rattle.mm_grammar.specs.Grammar.{name, opt}
use Rattle.mm_syntax.specs.declared.symbol.Symbol.TheVariants as k
use Rattle.mm_syntax.specs.Rules.{declarator, mark, initial}
use Rattle.mm_cursor.proofs.Steps.{err, err_take}
use Rattle.mm_parse_var.proofs.Exits.{declarator_no_mark, declarator_no_word, declarator_no_value, declarator_reads}
use Rattle.mm_parse_var.proofs.vars.declarator.Goals as goal

pub returns-in_err-mark-clause-reads : goal.returns-in_err-mark-clause-reads
returns-in_err-mark-clause-reads c =
    err (opt mark) (name declarator) _ _ _ _ _ c.from_residual.ensures.1 c.in_err-mark.ensures.reads λ f. declarator_no_mark _ _ f

pub returns-in_err-word-clause-reads : goal.returns-in_err-word-clause-reads
returns-in_err-word-clause-reads c =
    err_take (k.Word ∷ []) (name declarator) _ _ _ _ _ c.from_residual-in_err-word.ensures.1 c.in_err-word.ensures.reads λ f. declarator_no_word _ _ _ _ c.in_ok-mark.ensures.reads f

pub returns-in_err-value-clause-reads : goal.returns-in_err-value-clause-reads
returns-in_err-value-clause-reads c =
    err (opt initial) (name declarator) _ _ _ _ _ c.from_residual-in_err-value.ensures.1 c.in_err-value.ensures.reads λ f. declarator_no_value _ _ _ _ _ _ c.in_ok-mark.ensures.reads c.in_ok-word.ensures.reads f

pub returns-clause-reads : goal.returns-clause-reads
returns-clause-reads c =
    declarator_reads _ _ _ _ _ _ _ _ c.in_ok-mark.ensures.reads c.in_ok-word.ensures.reads c.in_ok-value.ensures.reads c.in_ok-declarator.ensures
