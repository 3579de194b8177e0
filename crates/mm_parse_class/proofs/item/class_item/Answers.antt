use Rattle.mm_syntax.specs.Rules.{after_member_class}
use Rattle.mm_cursor.proofs.Steps.{err, gives_not}
use Rattle.mm_parse_class.specs.Parts.{class_item}
use Rattle.mm_parse_class.proofs.item.class_item.Goals as goal

pub returns-in_err-tail-clause-reads : goal.returns-in_err-tail-clause-reads
returns-in_err-tail-clause-reads c =
    err (after_member_class c.args.nesting) (class_item c.args.class.now c.args.nesting) _ _ _ _ _ c.from_residual.ensures.1 c.in_err-tail.ensures.reads λ f. gives_not _ _ _ _ f
