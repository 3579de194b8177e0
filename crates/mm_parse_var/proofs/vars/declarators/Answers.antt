use Rattle.std.proofs.Common.{[], ◌∷◌}
use Rattle.mm_grammar.specs.Grammar.{name}
use Rattle.mm_syntax.specs.declared.symbol.Symbol.TheVariants as k
use Rattle.mm_syntax.specs.Rules.{declarator}
use Rattle.mm_cursor.proofs.Steps.{err, err_take}
use Rattle.mm_parse_var.specs.Parts.{declarators, following}
use Rattle.mm_parse_var.proofs.Exits.{declarators_no_first, declarators_no_other, declarators_unended, declarators_read}
use Rattle.mm_parse_var.proofs.vars.declarators.Goals as goal

pub returns-in_err-first-clause-reads : goal.returns-in_err-first-clause-reads
returns-in_err-first-clause-reads c =
    err (name declarator) declarators _ _ _ _ _ c.from_residual.ensures.1 c.in_err-first.ensures.reads λ f. declarators_no_first _ _ f

pub returns-in_err-list-clause-reads : goal.returns-in_err-list-clause-reads
returns-in_err-list-clause-reads c =
    err (following c.in_ok-first.first) declarators _ _ _ _ _ c.from_residual-in_err-list.ensures.1 c.in_err-list.ensures.reads λ f. declarators_no_other _ _ _ _ c.in_ok-first.ensures.reads f

pub returns-in_err-take-clause-reads : goal.returns-in_err-take-clause-reads
returns-in_err-take-clause-reads c =
    err_take (k.Semicolon ∷ []) declarators _ _ _ _ _ c.from_residual-in_err-take.ensures.1 c.in_err-take.ensures.reads λ f. declarators_unended _ _ _ _ _ _ c.in_ok-first.ensures.reads c.in_ok-list.ensures.reads f

pub returns-clause-reads : goal.returns-clause-reads
returns-clause-reads c =
    declarators_read _ _ _ _ _ _ _ c.in_ok-first.ensures.reads c.in_ok-list.ensures.reads c.in_ok-take.ensures.reads
