use Rattle.std.proofs.Common.{[], ◌∷◌}
use Rattle.mm_grammar.specs.Grammar.{name, opt}
use Rattle.mm_syntax.specs.declared.symbol.Symbol.TheVariants as k
use Rattle.mm_syntax.specs.Rules.{inits}
use Rattle.mm_cursor.proofs.Steps.{err, eats_some, eats_none}
use Rattle.mm_parse_function.specs.Parts.{init_list}
use Rattle.mm_parse_function.proofs.ConstructorExits.{inits_fails, inits_reads, inits_none}
use Rattle.mm_parse_function.proofs.constructor.inits.Goals as goal

pub returns-in_err-list-clause-reads : goal.returns-in_err-list-clause-reads
returns-in_err-list-clause-reads c =
    let x = eats_some (k.Colon ∷ []) _ _ _ c.if-is_some.ensures c.eat.ensures in
    err init_list (opt (name inits)) _ _ _ _ _ c.from_residual.ensures.1 c.in_err-list.ensures.reads λ f. inits_fails _ _ _ _ x.1 c.in_err-list.ensures.shorter f

pub returns-then-is_some-clause-reads : goal.returns-then-is_some-clause-reads
returns-then-is_some-clause-reads c =
    let x = eats_some (k.Colon ∷ []) _ _ _ c.if-is_some.ensures c.eat.ensures in
    inits_reads _ _ _ _ _ x.1 c.in_ok-list.ensures.reads

pub returns-clause-reads : goal.returns-clause-reads
returns-clause-reads c =
    inits_none _ _ (eats_none (k.Colon ∷ []) _ _ _ c.if-is_some.ensures c.eat.ensures)
