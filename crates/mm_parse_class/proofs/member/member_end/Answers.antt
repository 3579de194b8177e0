use Rattle.std.proofs.Common.{[], ◌∷◌}
use Rattle.mm_syntax.specs.declared.symbol.Symbol.TheVariants as k
use Rattle.mm_syntax.specs.Rules.{member_end}
use Rattle.mm_cursor.proofs.Steps.{err, tail}
use Rattle.mm_parse_class.specs.Parts.{function_end, fields}
use Rattle.mm_parse_class.proofs.Turns as turn
use Rattle.mm_parse_class.proofs.Exits as exit
use Rattle.mm_parse_class.proofs.member.member_end.Goals as goal

pub returns-then-is_open_next-clause-reads : goal.returns-then-is_open_next-clause-reads
returns-then-is_open_next-clause-reads c =
    tail (function_end c.args.nesting) (member_end c.args.nesting) _ _ _ _ c.function_end.ensures.reads (λ v a. exit.member_function c.args.nesting _ _ v (turn.is_next (k.Open ∷ []) _ _ c.if-is_open_next.true c.is_open_next.ensures) a) (λ f. exit.member_no_function c.args.nesting _ _ (turn.is_next (k.Open ∷ []) _ _ c.if-is_open_next.true c.is_open_next.ensures) f)

pub returns-in_err-list-clause-reads : goal.returns-in_err-list-clause-reads
returns-in_err-list-clause-reads c =
    err fields (member_end c.args.nesting) _ _ _ _ _ c.from_residual.ensures.1 c.in_err-list.ensures.reads λ f. exit.member_no_fields c.args.nesting _ _ (turn.is_not_next (k.Open ∷ []) _ _ c.if-is_open_next.false c.is_open_next.ensures) f

pub returns-clause-reads : goal.returns-clause-reads
returns-clause-reads c =
    exit.member_fields c.args.nesting _ _ _ _ (turn.is_not_next (k.Open ∷ []) _ _ c.if-is_open_next.false c.is_open_next.ensures) c.in_ok-list.ensures.reads c.in_ok-fields.ensures
