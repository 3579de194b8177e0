use Rattle.mm_grammar.specs.Grammar.{alt}
use Rattle.mm_syntax.specs.Rules.{number_type, class_type}
use Rattle.mm_cursor.proofs.Steps.{tail}
use Rattle.mm_parse_var.proofs.Exits.{object_class, object_number, object_not}
use Rattle.mm_parse_var.proofs.types.object_type.Goals as goal

pub returns-in-Some-clause-reads : goal.returns-in-Some-clause-reads
returns-in-Some-clause-reads c = object_class _ _ _ _ c.in-Some.ensures c.in_ok-class_type_name.ensures

pub returns-clause-reads : goal.returns-clause-reads
returns-clause-reads c =
    tail number_type (alt number_type class_type) _ _ _ _ c.number_type.ensures.reads (λ v a. object_number _ _ _ v c.in_default.ensures a) (λ f. object_not _ _ _ c.in_default.ensures f)
