use Rattle.std.proofs.Common.{[], ◌∷◌, refl}
use Rattle.mm_grammar.specs.Grammar.{opt}
use Rattle.mm_syntax.specs.declared.symbol.Symbol.TheVariants as k
use Rattle.mm_syntax.specs.Rules.{mark, member_end, member_tail}
use Rattle.mm_cursor.proofs.Steps.{err, err_take}
use Rattle.mm_parse_class.proofs.Turns as turn
use Rattle.mm_parse_class.proofs.member.member_tail.Goals as goal

pub returns-in_err-mark-clause-reads : goal.returns-in_err-mark-clause-reads
returns-in_err-mark-clause-reads c =
    err (opt mark) (member_tail c.args.nesting) _ _ _ _ _ c.from_residual.ensures.1 c.in_err-mark.ensures.reads λ f. turn.two_first _ _ _ refl _ _ f

pub returns-in_err-word-clause-reads : goal.returns-in_err-word-clause-reads
returns-in_err-word-clause-reads c =
    err_take (k.Word ∷ []) (member_tail c.args.nesting) _ _ _ _ _ c.from_residual-in_err-word.ensures.1 c.in_err-word.ensures.reads λ f. turn.three_second _ _ _ _ refl refl _ _ _ _ c.in_ok-mark.ensures.reads f

pub returns-in_err-end-clause-reads : goal.returns-in_err-end-clause-reads
returns-in_err-end-clause-reads c =
    err (member_end c.args.nesting) (member_tail c.args.nesting) _ _ _ _ _ c.from_residual-in_err-end.ensures.1 c.in_err-end.ensures.reads λ f. turn.three_third _ _ _ _ refl refl _ _ _ _ _ _ c.in_ok-mark.ensures.reads c.in_ok-word.ensures.reads f

pub returns-clause-reads : goal.returns-clause-reads
returns-clause-reads c =
    turn.three _ _ _ _ refl refl _ _ _ _ _ _ _ _ c.in_ok-mark.ensures.reads c.in_ok-word.ensures.reads c.in_ok-end.ensures.reads c.in_ok-member_tail.ensures
