use Rattle.std.proofs.Common.{[], ◌∷◌, refl}
use Rattle.mm_grammar.specs.Grammar.{opt}
use Rattle.mm_syntax.specs.declared.symbol.Symbol.TheVariants as k
use Rattle.mm_syntax.specs.Rules.{mark, parameters, method_tail}
use Rattle.mm_cursor.proofs.Steps.{err, err_take}
use Rattle.mm_parse_class.specs.Parts.{method_rest}
use Rattle.mm_parse_class.proofs.Turns as turn
use Rattle.mm_parse_class.proofs.Exits as exit
use Rattle.mm_parse_class.proofs.member.method_tail.Goals as goal

pub returns-in_err-mark-clause-reads : goal.returns-in_err-mark-clause-reads
returns-in_err-mark-clause-reads c =
    err (opt mark) (method_tail c.args.nesting) _ _ _ _ _ c.from_residual.ensures.1 c.in_err-mark.ensures.reads λ f. turn.two_first _ _ _ refl _ _ f

pub returns-in_err-word-clause-reads : goal.returns-in_err-word-clause-reads
returns-in_err-word-clause-reads c =
    err_take (k.Word ∷ []) (method_tail c.args.nesting) _ _ _ _ _ c.from_residual-in_err-word.ensures.1 c.in_err-word.ensures.reads λ f. exit.method_no_word c.args.nesting _ _ _ _ c.in_ok-mark.ensures.reads f

pub returns-in_err-params-clause-reads : goal.returns-in_err-params-clause-reads
returns-in_err-params-clause-reads c =
    err parameters (method_tail c.args.nesting) _ _ _ _ _ c.from_residual-in_err-params.ensures.1 c.in_err-params.ensures.reads λ f. exit.method_no_params c.args.nesting _ _ _ _ _ _ c.in_ok-mark.ensures.reads c.in_ok-word.ensures.reads f

pub returns-in_err-body-clause-reads : goal.returns-in_err-body-clause-reads
returns-in_err-body-clause-reads c =
    err (method_rest c.args.nesting) (method_tail c.args.nesting) _ _ _ _ _ c.from_residual-in_err-body.ensures.1 c.in_err-body.ensures.reads λ f. exit.method_no_body c.args.nesting _ _ _ _ _ _ _ _ c.in_ok-mark.ensures.reads c.in_ok-word.ensures.reads c.in_ok-params.ensures.reads f

pub returns-clause-reads : goal.returns-clause-reads
returns-clause-reads c =
    exit.method_reads c.args.nesting _ _ _ _ _ _ _ _ _ _ c.in_ok-mark.ensures.reads c.in_ok-word.ensures.reads c.in_ok-params.ensures.reads c.in_ok-body.ensures.reads c.in_ok-method_tail.ensures
