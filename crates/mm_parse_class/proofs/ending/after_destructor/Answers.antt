use Rattle.std.proofs.Common.{[], ◌∷◌, arith, refl}
use Rattle.mm_grammar.specs.Grammar.{give}
use Rattle.mm_syntax.specs.declared.symbol.Symbol.TheVariants as k
use Rattle.mm_syntax.specs.Built as b
use Rattle.mm_cursor.proofs.Steps.{err_take}
use Rattle.mm_parse_class.specs.Parts.{after_destructor}
use Rattle.mm_parse_class.proofs.Turns as turn
use Rattle.mm_parse_class.proofs.Exits as exit
use Rattle.mm_parse_class.proofs.ending.after_destructor.Goals as goal

pub returns-in_err-take-clause-reads : goal.returns-in_err-take-clause-reads
returns-in_err-take-clause-reads c =
    err_take (k.Open ∷ []) (give b.is_given after_destructor) _ _ _ _ _ c.from_residual.ensures.1 c.in_err-take.ensures.reads λ f. exit.destructor_no_open _ _ f

pub returns-in_err-take-2-clause-reads : goal.returns-in_err-take-2-clause-reads
returns-in_err-take-2-clause-reads c =
    err_take (k.Close ∷ []) (give b.is_given after_destructor) _ _ _ _ _ c.from_residual-in_err-take-2.ensures.1 c.in_err-take-2.ensures.reads λ f. exit.destructor_no_close _ _ _ _ _ _ c.in_ok-take.ensures.reads (turn.token_given (k.Void ∷ []) refl _ _ _ _ c.is_some-has_void.ensures c.eat.ensures) f

pub returns-in_err-take-3-clause-reads : goal.returns-in_err-take-3-clause-reads
returns-in_err-take-3-clause-reads c =
    err_take (k.OpenBrace ∷ []) (give b.is_given after_destructor) _ _ _ _ _ c.from_residual-in_err-take-3.ensures.1 c.in_err-take-3.ensures.reads λ f. exit.destructor_no_brace _ _ _ _ _ _ _ _ c.in_ok-take.ensures.reads (turn.token_given (k.Void ∷ []) refl _ _ _ _ c.is_some-has_void.ensures c.eat.ensures) c.in_ok-take-2.ensures.reads f

pub returns-in_err-take-4-clause-reads : goal.returns-in_err-take-4-clause-reads
returns-in_err-take-4-clause-reads c =
    err_take (k.CloseBrace ∷ []) (give b.is_given after_destructor) _ _ _ _ _ c.from_residual-in_err-take-4.ensures.1 c.in_err-take-4.ensures.reads λ f. exit.destructor_unclosed _ _ _ _ _ _ _ _ _ _ c.in_ok-take.ensures.reads (turn.token_given (k.Void ∷ []) refl _ _ _ _ c.is_some-has_void.ensures c.eat.ensures) c.in_ok-take-2.ensures.reads c.in_ok-take-3.ensures.reads f

pub returns-clause-reads : goal.returns-clause-reads
returns-clause-reads c =
    exit.destructor_ends _ _ _ _ _ _ _ _ _ _ _ _ c.in_ok-take.ensures.reads (turn.token_given (k.Void ∷ []) refl _ _ _ _ c.is_some-has_void.ensures c.eat.ensures) c.in_ok-take-2.ensures.reads c.in_ok-take-3.ensures.reads c.in_ok-take-4.ensures.reads c.semicolon.ensures.reads

pub returns-clause-shorter : goal.returns-clause-shorter
returns-clause-shorter c =
    let n = turn.eats_shorter (k.Void ∷ []) _ _ _ c.eat.ensures in
    omega (arith, n, c.in_ok-take.ensures.shorter, c.in_ok-take-2.ensures.shorter, c.in_ok-take-3.ensures.shorter, c.in_ok-take-4.ensures.shorter, c.semicolon.ensures.shorter)
