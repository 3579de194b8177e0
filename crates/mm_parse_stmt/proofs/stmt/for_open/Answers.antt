use Rattle.std.proofs.Common.{[], ◌∷◌}
use Rattle.mm_syntax.specs.declared.symbol.Symbol.TheVariants as k
use Rattle.mm_syntax.specs.Rules.{for_start}
use Rattle.mm_cursor.proofs.Steps.{err_take, tail}
use Rattle.mm_parse_stmt.specs.Parts.{for_open}
use Rattle.mm_parse_stmt.proofs.Exits.{open_no_mark, open_reads, open_fails}
use Rattle.mm_parse_stmt.proofs.stmt.for_open.Goals as goal

pub returns-in_err-take-clause-reads : goal.returns-in_err-take-clause-reads
returns-in_err-take-clause-reads c =
    err_take (k.Open ∷ []) for_open _ _ _ _ _ c.from_residual.ensures.1 c.in_err-take.ensures.reads λ f. open_no_mark _ _ f

pub returns-clause-reads : goal.returns-clause-reads
returns-clause-reads c =
    tail for_start for_open _ _ _ _ c.for_start.ensures.reads (λ v a. open_reads _ _ _ _ v c.in_ok-take.ensures.reads a) (λ f. open_fails _ _ _ _ c.in_ok-take.ensures.reads f)
