use Rattle.mm_syntax.specs.Rules.{after_virtual}
use Rattle.mm_cursor.proofs.Steps.{err, gives_not}
use Rattle.mm_parse_class.specs.Parts.{virtual_item}
use Rattle.mm_parse_class.proofs.item.virtual_item.Goals as goal

pub returns-in_err-tail-clause-reads : goal.returns-in_err-tail-clause-reads
returns-in_err-tail-clause-reads c =
    err (after_virtual c.args.nesting) (virtual_item c.args.word.now c.args.nesting) _ _ _ _ _ c.from_residual.ensures.1 c.in_err-tail.ensures.reads λ f. gives_not _ _ _ _ f
