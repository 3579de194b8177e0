use Rattle.std.proofs.Common.{[], ◌∷◌, refl}
use Rattle.mm_syntax.specs.declared.symbol.Symbol.TheVariants as k
use Rattle.mm_syntax.specs.BuiltDeclarations as bd
use Rattle.mm_parse_class.proofs.Turns.{token_some, token_none}
use Rattle.mm_parse_class.proofs.ahead.virtual_word.Goals as goal

pub returns-in-Some-clause-reads : goal.returns-in-Some-clause-reads
returns-in-Some-clause-reads c =
    token_some (k.Virtual ∷ []) bd.place_if refl _ _ _ _ c.in-Some.ensures refl

pub returns-in-None-clause-reads : goal.returns-in-None-clause-reads
returns-in-None-clause-reads c =
    token_none (k.Virtual ∷ []) bd.place_if refl _ _ _ c.in-None.ensures refl
