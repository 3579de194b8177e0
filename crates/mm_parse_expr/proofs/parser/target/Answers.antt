use Rattle.std.proofs.Common.{[], ◌∷◌}
use Rattle.mm_syntax.specs.declared.symbol.Symbol.TheVariants as k
use Rattle.mm_cursor.proofs.Steps.{err_take}
use Rattle.mm_parse_expr.specs.Parts.{target}
use Rattle.mm_parse_expr.proofs.Exits.{target_no_less, target_no_class, target_no_star, target_no_greater, target_reads}
use Rattle.mm_parse_expr.proofs.parser.target.Goals as goal

pub returns-in_err-take-clause-reads : goal.returns-in_err-take-clause-reads
returns-in_err-take-clause-reads c =
    err_take (k.Less ∷ []) target _ _ _ _ _ c.from_residual.ensures.1 c.in_err-take.ensures.reads λ f. target_no_less _ _ f

pub returns-in_err-class-clause-reads : goal.returns-in_err-class-clause-reads
returns-in_err-class-clause-reads c =
    err_take (k.Class ∷ []) target _ _ _ _ _ c.from_residual-in_err-class.ensures.1 c.in_err-class.ensures.reads λ f. target_no_class _ _ _ _ c.in_ok-take.ensures.reads f

pub returns-in_err-take-2-clause-reads : goal.returns-in_err-take-2-clause-reads
returns-in_err-take-2-clause-reads c =
    err_take (k.Star ∷ []) target _ _ _ _ _ c.from_residual-in_err-take-2.ensures.1 c.in_err-take-2.ensures.reads λ f. target_no_star _ _ _ _ _ _ c.in_ok-take.ensures.reads c.in_ok-class.ensures.reads f

pub returns-in_err-take-3-clause-reads : goal.returns-in_err-take-3-clause-reads
returns-in_err-take-3-clause-reads c =
    err_take (k.Greater ∷ []) target _ _ _ _ _ c.from_residual-in_err-take-3.ensures.1 c.in_err-take-3.ensures.reads λ f. target_no_greater _ _ _ _ _ _ _ _ c.in_ok-take.ensures.reads c.in_ok-class.ensures.reads c.in_ok-take-2.ensures.reads f

pub returns-clause-reads : goal.returns-clause-reads
returns-clause-reads c =
    target_reads _ _ _ _ _ _ _ _ _ _ c.in_ok-take.ensures.reads c.in_ok-class.ensures.reads c.in_ok-take-2.ensures.reads c.in_ok-take-3.ensures.reads c.in_ok-target.ensures
