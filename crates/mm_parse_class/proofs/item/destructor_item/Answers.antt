use Rattle.mm_cursor.proofs.Steps.{err, gives_not}
use Rattle.mm_parse_class.specs.Parts.{destructor_from, destructor_item}
use Rattle.mm_parse_class.proofs.item.destructor_item.Goals as goal

pub returns-in_err-tail-clause-reads : goal.returns-in_err-tail-clause-reads
returns-in_err-tail-clause-reads c =
    err (destructor_from c.args.tilde.now) (destructor_item c.args.tilde.now) _ _ _ _ _ c.from_residual.ensures.1 c.in_err-tail.ensures.reads λ f. gives_not _ _ _ _ f
