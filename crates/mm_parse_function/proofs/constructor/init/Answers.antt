use Rattle.std.proofs.Common.{[], ◌∷◌}
use Rattle.mm_grammar.specs.Grammar.{name}
use Rattle.mm_syntax.specs.declared.symbol.Symbol.TheVariants as k
use Rattle.mm_syntax.specs.Rules.{init, inside}
use Rattle.mm_cursor.proofs.Steps.{err, err_take}
use Rattle.mm_parse_function.proofs.ConstructorExits.{init_no_word, init_no_open, init_no_inside, init_reads}
use Rattle.mm_parse_function.proofs.constructor.init.Goals as goal

pub returns-in_err-word-clause-reads : goal.returns-in_err-word-clause-reads
returns-in_err-word-clause-reads c =
    err_take (k.Word ∷ k.Class ∷ []) (name init) _ _ _ _ _ c.from_residual.ensures.1 c.in_err-word.ensures.reads λ f. init_no_word _ _ f

pub returns-in_err-take-clause-reads : goal.returns-in_err-take-clause-reads
returns-in_err-take-clause-reads c =
    err_take (k.Open ∷ []) (name init) _ _ _ _ _ c.from_residual-in_err-take.ensures.1 c.in_err-take.ensures.reads λ f. init_no_open _ _ _ _ c.in_ok-word.ensures.reads f

pub returns-in_err-args-clause-reads : goal.returns-in_err-args-clause-reads
returns-in_err-args-clause-reads c =
    err inside (name init) _ _ _ _ _ c.from_residual-in_err-args.ensures.1 c.in_err-args.ensures.reads λ f. init_no_inside _ _ _ _ _ _ c.in_ok-word.ensures.reads c.in_ok-take.ensures.reads f

pub returns-clause-reads : goal.returns-clause-reads
returns-clause-reads c =
    init_reads _ _ _ _ _ _ _ _ c.in_ok-word.ensures.reads c.in_ok-take.ensures.reads c.in_ok-args.ensures.reads c.in_ok-init.ensures
