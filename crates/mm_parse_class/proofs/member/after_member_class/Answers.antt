use Rattle.std.proofs.Common.{[], ◌∷◌}
use Rattle.mm_syntax.specs.declared.symbol.Symbol.TheVariants as k
use Rattle.mm_syntax.specs.Rules.{member_tail, constructor_tail, after_member_class}
use Rattle.mm_cursor.proofs.Steps.{err}
use Rattle.mm_parse_class.proofs.Turns as turn
use Rattle.mm_parse_class.proofs.Exits as exit
use Rattle.mm_parse_class.proofs.member.after_member_class.Goals as goal

pub returns-in_err-tail-clause-reads : goal.returns-in_err-tail-clause-reads
returns-in_err-tail-clause-reads c =
    err (constructor_tail c.args.nesting) (after_member_class c.args.nesting) _ _ _ _ _ c.from_residual.ensures.1 c.in_err-tail.ensures.reads λ f. exit.class_no_constructor c.args.nesting _ _ (turn.is_next (k.Open ∷ []) _ _ c.if-is_open_next.true c.is_open_next.ensures) f

pub returns-then-is_open_next-clause-reads : goal.returns-then-is_open_next-clause-reads
returns-then-is_open_next-clause-reads c =
    exit.class_constructor c.args.nesting _ _ _ _ (turn.is_next (k.Open ∷ []) _ _ c.if-is_open_next.true c.is_open_next.ensures) c.in_ok-tail.ensures.reads c.in_ok-constructor_member.ensures

pub returns-in_err-tail-2-clause-reads : goal.returns-in_err-tail-2-clause-reads
returns-in_err-tail-2-clause-reads c =
    err (member_tail c.args.nesting) (after_member_class c.args.nesting) _ _ _ _ _ c.from_residual-in_err-tail-2.ensures.1 c.in_err-tail-2.ensures.reads λ f. exit.class_not_typed c.args.nesting _ _ (turn.is_not_next (k.Open ∷ []) _ _ c.if-is_open_next.false c.is_open_next.ensures) f

pub returns-clause-reads : goal.returns-clause-reads
returns-clause-reads c =
    exit.class_typed c.args.nesting _ _ _ _ (turn.is_not_next (k.Open ∷ []) _ _ c.if-is_open_next.false c.is_open_next.ensures) c.in_ok-tail-2.ensures.reads c.in_ok-type_member.ensures
