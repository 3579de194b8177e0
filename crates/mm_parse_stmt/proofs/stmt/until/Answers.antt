use Rattle.std.proofs.Common.{[], ◌∷◌}
use Rattle.mm_syntax.specs.declared.symbol.Symbol.TheVariants as k
use Rattle.mm_syntax.specs.Rules.{enclosed}
use Rattle.mm_cursor.proofs.Steps.{err, err_take}
use Rattle.mm_parse_stmt.specs.Parts.{until}
use Rattle.mm_parse_stmt.proofs.Exits.{until_no_word, until_no_condition, until_no_mark, until_reads}
use Rattle.mm_parse_stmt.proofs.stmt.until.Goals as goal

pub returns-in_err-take-clause-reads : goal.returns-in_err-take-clause-reads
returns-in_err-take-clause-reads c =
    err_take (k.While ∷ []) until _ _ _ _ _ c.from_residual.ensures.1 c.in_err-take.ensures.reads λ f. until_no_word _ _ f

pub returns-in_err-condition-clause-reads : goal.returns-in_err-condition-clause-reads
returns-in_err-condition-clause-reads c =
    err enclosed until _ _ _ _ _ c.from_residual-in_err-condition.ensures.1 c.in_err-condition.ensures.reads λ f. until_no_condition _ _ _ _ c.in_ok-take.ensures.reads f

pub returns-in_err-take-2-clause-reads : goal.returns-in_err-take-2-clause-reads
returns-in_err-take-2-clause-reads c =
    err_take (k.Semicolon ∷ []) until _ _ _ _ _ c.from_residual-in_err-take-2.ensures.1 c.in_err-take-2.ensures.reads λ f. until_no_mark _ _ _ _ _ _ c.in_ok-take.ensures.reads c.in_ok-condition.ensures.reads f

pub returns-clause-reads : goal.returns-clause-reads
returns-clause-reads c =
    until_reads _ _ _ _ _ _ _ c.in_ok-take.ensures.reads c.in_ok-condition.ensures.reads c.in_ok-take-2.ensures.reads
