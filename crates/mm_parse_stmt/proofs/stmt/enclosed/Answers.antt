use Rattle.std.proofs.Common.{[], ◌∷◌}
use Rattle.mm_syntax.specs.declared.symbol.Symbol.TheVariants as k
use Rattle.mm_syntax.specs.Rules.{enclosed}
use Rattle.mm_cursor.proofs.Steps.{err_take, tail}
use Rattle.mm_parse_expr.specs.Parts.{closing}
use Rattle.mm_parse_stmt.proofs.Exits.{enclosed_no_open, enclosed_reads, enclosed_fails}
use Rattle.mm_parse_stmt.proofs.stmt.enclosed.Goals as goal

pub returns-in_err-take-clause-reads : goal.returns-in_err-take-clause-reads
returns-in_err-take-clause-reads c =
    err_take (k.Open ∷ []) enclosed _ _ _ _ _ c.from_residual.ensures.1 c.in_err-take.ensures.reads λ f. enclosed_no_open _ _ f

pub returns-clause-reads : goal.returns-clause-reads
returns-clause-reads c =
    tail closing enclosed _ _ _ _ c.closed.ensures.reads (λ v a. enclosed_reads _ _ _ _ v c.in_ok-take.ensures.reads a) (λ f. enclosed_fails _ _ _ _ c.in_ok-take.ensures.reads f)
