use Rattle.std.proofs.Common.{[], ◌∷◌, refl}
use Rattle.mm_syntax.specs.declared.symbol.Symbol.TheVariants as k
use Rattle.mm_parse_class.proofs.Turns.{token_eaten}
use Rattle.mm_parse_class.proofs.ahead.semicolon.Goals as goal

pub returns-clause-reads : goal.returns-clause-reads
returns-clause-reads c =
    token_eaten (k.Semicolon ∷ []) tt refl _ _ _ c.eat.ensures
