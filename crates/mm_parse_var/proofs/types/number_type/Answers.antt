use Rattle.std.proofs.Common.{[], ◌∷◌}
use Rattle.mm_syntax.specs.declared.symbol.Symbol.TheVariants as k
use Rattle.mm_syntax.specs.Rules.{number_type}
use Rattle.mm_cursor.proofs.Steps.{err_take}
use Rattle.mm_parse_var.proofs.Exits.{number_word, number_no_word, number_unsigned}
use Rattle.mm_parse_var.proofs.types.number_type.Goals as goal

pub returns-in-Some-clause-reads : goal.returns-in-Some-clause-reads
returns-in-Some-clause-reads c = number_word _ _ _ _ c.in-Some.ensures c.word_type_name.ensures

pub returns-in_err-word-clause-reads : goal.returns-in_err-word-clause-reads
returns-in_err-word-clause-reads c =
    err_take (k.Unsigned ∷ []) number_type _ _ _ _ _ c.from_residual.ensures.1 c.in_err-word.ensures.reads λ f. number_no_word _ _ _ c.in_default.ensures f

pub returns-clause-reads : goal.returns-clause-reads
returns-clause-reads c =
    number_unsigned _ _ _ _ _ _ _ c.in_default.ensures c.in_ok-word.ensures.reads c.eat-int.ensures c.unsigned.ensures
