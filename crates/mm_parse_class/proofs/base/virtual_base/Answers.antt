use Rattle.std.proofs.Common.{[], ◌∷◌}
use Rattle.mm_syntax.specs.declared.symbol.Symbol.TheVariants as k
use Rattle.mm_cursor.proofs.Steps.{err_take}
use Rattle.mm_parse_class.specs.Parts.{virtual_base}
use Rattle.mm_parse_class.proofs.Exits.{virtual_base_no_class, virtual_base_reads}
use Rattle.mm_parse_class.proofs.base.virtual_base.Goals as goal

pub returns-in_err-class-clause-reads : goal.returns-in_err-class-clause-reads
returns-in_err-class-clause-reads c =
    err_take (k.Class ∷ []) (virtual_base c.args.word.now) _ _ _ _ _ c.from_residual.ensures.1 c.in_err-class.ensures.reads λ f. virtual_base_no_class c.args.word.now _ _ _ _ c.access-access.ensures.reads f

pub returns-clause-reads : goal.returns-clause-reads
returns-clause-reads c =
    virtual_base_reads c.args.word.now _ _ _ _ _ _ c.access-access.ensures.reads c.in_ok-class.ensures.reads c.in_ok-base.ensures
