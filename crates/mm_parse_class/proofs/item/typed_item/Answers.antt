use Rattle.std.proofs.Common.{refl}
use Rattle.mm_grammar.specs.Grammar.{alt}
use Rattle.mm_syntax.specs.Rules.{void_type, number_type, member_tail}
use Rattle.mm_cursor.proofs.Steps.{err}
use Rattle.mm_parse_class.specs.Parts.{typed_item}
use Rattle.mm_parse_class.proofs.Turns as turn
use Rattle.mm_parse_class.proofs.item.typed_item.Goals as goal

pub returns-in_err-type_name-clause-reads : goal.returns-in_err-type_name-clause-reads
returns-in_err-type_name-clause-reads c =
    err (alt void_type number_type) (typed_item c.args.nesting) _ _ _ _ _ c.from_residual.ensures.1 c.in_err-type_name.ensures.reads λ f. turn.two_first _ _ _ refl _ _ f

pub returns-in_err-tail-clause-reads : goal.returns-in_err-tail-clause-reads
returns-in_err-tail-clause-reads c =
    err (member_tail c.args.nesting) (typed_item c.args.nesting) _ _ _ _ _ c.from_residual-in_err-tail.ensures.1 c.in_err-tail.ensures.reads λ f. turn.two_second _ _ _ refl _ _ _ _ c.in_ok-type_name.ensures.reads f

pub returns-clause-reads : goal.returns-clause-reads
returns-clause-reads c =
    turn.two _ _ _ refl _ _ _ _ _ _ c.in_ok-type_name.ensures.reads c.in_ok-tail.ensures.reads c.in_ok-typed_member.ensures
