use Rattle.mm_grammar.specs.Grammar.{name, alt}
use Rattle.mm_syntax.specs.Rules.{type_name, number_type, class_type}
use Rattle.mm_cursor.proofs.Steps.{tail}
use Rattle.mm_parse_var.proofs.Exits.{type_void, type_object, type_not}
use Rattle.mm_parse_var.proofs.types.type_name.Goals as goal

pub returns-in-Some-clause-reads : goal.returns-in-Some-clause-reads
returns-in-Some-clause-reads c = type_void _ _ _ _ c.in-Some.ensures c.word_type_name.ensures

pub returns-clause-reads : goal.returns-clause-reads
returns-clause-reads c =
    tail (alt number_type class_type) (name type_name) _ _ _ _ c.object_type.ensures.reads (λ v a. type_object _ _ _ v c.in_default.ensures a) (λ f. type_not _ _ _ c.in_default.ensures f)
