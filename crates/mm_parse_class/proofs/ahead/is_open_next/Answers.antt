use Rattle.std.proofs.Common.{[], ◌∷◌, ◌∙◌}
use Rattle.mm_syntax.specs.declared.symbol.Symbol.TheVariants as k
use Rattle.mm_parse_class.proofs.Turns.{foreseen}
use Rattle.mm_parse_class.proofs.ahead.is_open_next.Goals as goal

pub returns : goal.returns
returns c =
    foreseen (k.Open ∷ []) _ _ _ _ _ (c.new.ensures ∙ c.rest.ensures) c.is_some.ensures c.eat.ensures
