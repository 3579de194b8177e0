use Rattle.std.proofs.Common.{refl, ap, Some}
use Rattle.mm_syntax.specs.BuiltDeclarations as bd
use Rattle.mm_syntax.specs.Rules.{accesses}
use Rattle.mm_parse_class.proofs.Turns.{token_some, token_none}
use Rattle.mm_parse_class.proofs.ahead.access.Goals as goal

pub returns-in-Some-clause-reads : goal.returns-in-Some-clause-reads
returns-in-Some-clause-reads c =
    token_some accesses bd.access_if refl _ _ _ _ c.in-Some.ensures (ap (λ w. Some w) c.access_word.ensures)

pub returns-in-None-clause-reads : goal.returns-in-None-clause-reads
returns-in-None-clause-reads c =
    token_none accesses bd.access_if refl _ _ _ c.in-None.ensures refl
