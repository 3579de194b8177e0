use Rattle.mm_grammar.specs.Grammar.{alt}
use Rattle.mm_syntax.specs.Rules.{void_type, number_type}
use Rattle.mm_cursor.proofs.Steps.{tail}
use Rattle.mm_parse_var.proofs.Exits.{word_void, word_number, word_not}
use Rattle.mm_parse_var.proofs.types.word_type.Goals as goal

pub returns-in-Some-clause-reads : goal.returns-in-Some-clause-reads
returns-in-Some-clause-reads c = word_void _ _ _ _ c.in-Some.ensures c.word_type_name.ensures

pub returns-clause-reads : goal.returns-clause-reads
returns-clause-reads c =
    tail number_type (alt void_type number_type) _ _ _ _ c.number_type.ensures.reads (λ v a. word_number _ _ _ v c.in_default.ensures a) (λ f. word_not _ _ _ c.in_default.ensures f)
