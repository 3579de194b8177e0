use Rattle.std.proofs.Common.{[], ◌∷◌, refl}
use Rattle.mm_grammar.specs.Grammar.{give}
use Rattle.mm_syntax.specs.declared.symbol.Symbol.TheVariants as k
use Rattle.mm_syntax.specs.Built as b
use Rattle.mm_cursor.proofs.Steps.{err, err_take}
use Rattle.mm_parse_class.specs.Parts.{after_destructor, destructor_from}
use Rattle.mm_parse_class.proofs.Turns as turn
use Rattle.mm_parse_class.proofs.Exits as exit
use Rattle.mm_parse_class.proofs.ending.destructor.Goals as goal

pub returns-in_err-class-clause-reads : goal.returns-in_err-class-clause-reads
returns-in_err-class-clause-reads c =
    err_take (k.Class ∷ []) (destructor_from c.args.tilde.now) _ _ _ _ _ c.from_residual.ensures.1 c.in_err-class.ensures.reads λ f. turn.two_first _ _ _ refl _ _ f

pub returns-in_err-has_void-clause-reads : goal.returns-in_err-has_void-clause-reads
returns-in_err-has_void-clause-reads c =
    err (give b.is_given after_destructor) (destructor_from c.args.tilde.now) _ _ _ _ _ c.from_residual-in_err-has_void.ensures.1 c.in_err-has_void.ensures.reads λ f. exit.destructor_no_end c.args.tilde.now _ _ _ _ c.in_ok-class.ensures.reads f

pub returns-clause-reads : goal.returns-clause-reads
returns-clause-reads c =
    exit.destructor_reads c.args.tilde.now _ _ _ _ _ _ c.in_ok-class.ensures.reads c.in_ok-has_void.ensures.reads c.in_ok-destructor_tail.ensures
