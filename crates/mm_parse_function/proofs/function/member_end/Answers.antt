use Rattle.std.proofs.Common.{[], ◌∷◌}
use Rattle.mm_grammar.specs.Grammar.{name}
use Rattle.mm_syntax.specs.declared.symbol.Symbol.TheVariants as k
use Rattle.mm_syntax.specs.Rules.{parameters, block}
use Rattle.mm_cursor.proofs.Steps.{err, err_take}
use Rattle.mm_parse_function.specs.Parts.{member_end}
use Rattle.mm_parse_function.proofs.FunctionExits.{member_no_class, member_no_scope, member_no_word, member_no_params, member_no_block, member_reads}
use Rattle.mm_parse_function.proofs.function.member_end.Goals as goal

pub returns-in_err-class-clause-reads : goal.returns-in_err-class-clause-reads
returns-in_err-class-clause-reads c =
    err_take (k.Class ∷ []) (member_end c.args.nesting) _ _ _ _ _ c.from_residual.ensures.1 c.in_err-class.ensures.reads λ f. member_no_class c.args.nesting _ _ f

pub returns-in_err-take-clause-reads : goal.returns-in_err-take-clause-reads
returns-in_err-take-clause-reads c =
    err_take (k.Scope ∷ []) (member_end c.args.nesting) _ _ _ _ _ c.from_residual-in_err-take.ensures.1 c.in_err-take.ensures.reads λ f. member_no_scope c.args.nesting _ _ _ _ c.in_ok-class.ensures.reads f

pub returns-in_err-word-clause-reads : goal.returns-in_err-word-clause-reads
returns-in_err-word-clause-reads c =
    err_take (k.Word ∷ []) (member_end c.args.nesting) _ _ _ _ _ c.from_residual-in_err-word.ensures.1 c.in_err-word.ensures.reads λ f. member_no_word c.args.nesting _ _ _ _ _ _ c.in_ok-class.ensures.reads c.in_ok-take.ensures.reads f

pub returns-in_err-params-clause-reads : goal.returns-in_err-params-clause-reads
returns-in_err-params-clause-reads c =
    err parameters (member_end c.args.nesting) _ _ _ _ _ c.from_residual-in_err-params.ensures.1 c.in_err-params.ensures.reads λ f. member_no_params c.args.nesting _ _ _ _ _ _ _ _ c.in_ok-class.ensures.reads c.in_ok-take.ensures.reads c.in_ok-word.ensures.reads f

pub returns-in_err-body-clause-reads : goal.returns-in_err-body-clause-reads
returns-in_err-body-clause-reads c =
    err (name (block c.args.nesting)) (member_end c.args.nesting) _ _ _ _ _ c.from_residual-in_err-body.ensures.1 c.in_err-body.ensures.reads λ f. member_no_block c.args.nesting _ _ _ _ _ _ _ _ _ _ c.in_ok-class.ensures.reads c.in_ok-take.ensures.reads c.in_ok-word.ensures.reads c.in_ok-params.ensures.reads f

pub returns-clause-reads : goal.returns-clause-reads
returns-clause-reads c =
    member_reads c.args.nesting _ _ _ _ _ _ _ _ _ _ _ _ c.in_ok-class.ensures.reads c.in_ok-take.ensures.reads c.in_ok-word.ensures.reads c.in_ok-params.ensures.reads c.in_ok-body.ensures.reads c.in_ok-member_end.ensures
