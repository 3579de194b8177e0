use Rattle.std.proofs.Common.{[], ◌∷◌}
use Rattle.mm_syntax.specs.declared.symbol.Symbol.TheVariants as k
use Rattle.mm_syntax.specs.Rules.{scoped}
use Rattle.mm_cursor.proofs.Steps.{err_take}
use Rattle.mm_parse_expr.proofs.Exits.{scoped_no_class, scoped_no_mark, scoped_no_word, scoped_reads}
use Rattle.mm_parse_expr.proofs.parser.scoped.Goals as goal

pub returns-in_err-class-clause-reads : goal.returns-in_err-class-clause-reads
returns-in_err-class-clause-reads c =
    err_take (k.Class ∷ []) scoped _ _ _ _ _ c.from_residual.ensures.1 c.in_err-class.ensures.reads λ f. scoped_no_class _ _ f

pub returns-in_err-take-clause-reads : goal.returns-in_err-take-clause-reads
returns-in_err-take-clause-reads c =
    err_take (k.Scope ∷ []) scoped _ _ _ _ _ c.from_residual-in_err-take.ensures.1 c.in_err-take.ensures.reads λ f. scoped_no_mark _ _ _ _ c.in_ok-class.ensures.reads f

pub returns-in_err-word-clause-reads : goal.returns-in_err-word-clause-reads
returns-in_err-word-clause-reads c =
    err_take (k.Word ∷ []) scoped _ _ _ _ _ c.from_residual-in_err-word.ensures.1 c.in_err-word.ensures.reads λ f. scoped_no_word _ _ _ _ _ _ c.in_ok-class.ensures.reads c.in_ok-take.ensures.reads f

pub returns-clause-reads : goal.returns-clause-reads
returns-clause-reads c =
    scoped_reads _ _ _ _ _ _ _ _ c.in_ok-class.ensures.reads c.in_ok-take.ensures.reads c.in_ok-word.ensures.reads c.in_ok-scoped.ensures
