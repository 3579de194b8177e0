use Rattle.std.proofs.Common.{[], ◌∷◌}
use Rattle.mm_syntax.specs.declared.symbol.Symbol.TheVariants as k
use Rattle.mm_cursor.proofs.Steps.{err_take}
use Rattle.mm_parse_expr.specs.Parts.{member}
use Rattle.mm_parse_expr.proofs.Exits.{member_no_mark, member_no_word, member_with, member_no_plain, member_plain}
use Rattle.mm_parse_expr.proofs.parser.selected.Goals as goal

pub returns-in_err-take-clause-reads : goal.returns-in_err-take-clause-reads
returns-in_err-take-clause-reads c =
    err_take (k.Scope ∷ []) (member c.args.op.now) _ _ _ _ _ c.from_residual.ensures.1 c.in_err-take.ensures.reads λ f. member_no_mark c.args.op.now _ _ _ _ c.in-Some.ensures c.in_err-take.ensures.shorter f

pub returns-in_err-word-clause-reads : goal.returns-in_err-word-clause-reads
returns-in_err-word-clause-reads c =
    err_take (k.Word ∷ []) (member c.args.op.now) _ _ _ _ _ c.from_residual-in_err-word.ensures.1 c.in_err-word.ensures.reads λ f. member_no_word c.args.op.now _ _ _ _ _ _ c.in-Some.ensures c.in_ok-take.ensures.reads f

pub returns-in-Some-clause-reads : goal.returns-in-Some-clause-reads
returns-in-Some-clause-reads c =
    member_with c.args.op.now _ _ _ _ _ _ _ _ c.in-Some.ensures c.in_ok-take.ensures.reads c.in_ok-word.ensures.reads c.in_ok-member.ensures

pub returns-in_err-word-2-clause-reads : goal.returns-in_err-word-2-clause-reads
returns-in_err-word-2-clause-reads c =
    err_take (k.Word ∷ []) (member c.args.op.now) _ _ _ _ _ c.from_residual-in_err-word-2.ensures.1 c.in_err-word-2.ensures.reads λ f. member_no_plain c.args.op.now _ _ _ c.in_default.ensures f

pub returns-clause-reads : goal.returns-clause-reads
returns-clause-reads c =
    member_plain c.args.op.now _ _ _ _ _ c.in_default.ensures c.in_ok-word-2.ensures.reads c.in_ok-member-2.ensures
