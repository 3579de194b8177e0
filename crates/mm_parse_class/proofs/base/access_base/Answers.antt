use Rattle.std.proofs.Common.{[], ◌∷◌, refl, ap, ◌∙◌, Some}
use Rattle.mm_syntax.specs.declared.symbol.Symbol.TheVariants as k
use Rattle.mm_syntax.specs.Rules.{accesses}
use Rattle.mm_cursor.proofs.Steps.{err_take}
use Rattle.mm_parse_class.specs.Parts.{access_base, base_of}
use Rattle.mm_parse_class.proofs.Turns.{two_first}
use Rattle.mm_parse_class.proofs.Exits.{access_base_no_class, access_base_reads}
use Rattle.mm_parse_class.proofs.base.access_base.Goals as goal

pub returns-in_err-word-clause-reads : goal.returns-in_err-word-clause-reads
returns-in_err-word-clause-reads c =
    err_take accesses access_base _ _ _ _ _ c.from_residual.ensures.1 c.in_err-word.ensures.reads λ f. two_first _ _ _ refl _ _ f

pub returns-in_err-class-clause-reads : goal.returns-in_err-class-clause-reads
returns-in_err-class-clause-reads c =
    err_take (k.Class ∷ []) access_base _ _ _ _ _ c.from_residual-in_err-class.ensures.1 c.in_err-class.ensures.reads λ f. access_base_no_class _ _ _ _ _ _ c.in_ok-word.ensures.reads c.virtual_word-virtual_at.ensures.reads f

pub returns-clause-reads : goal.returns-clause-reads
returns-clause-reads c =
    access_base_reads _ _ _ _ _ _ _ _ c.in_ok-word.ensures.reads c.virtual_word-virtual_at.ensures.reads c.in_ok-class.ensures.reads (c.in_ok-base.ensures ∙ ap (λ w. base_of c.virtual_word-virtual_at.result (Some w) c.in_ok-class.class.now) c.access_word.ensures)
