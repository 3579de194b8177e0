use Rattle.mm_grammar.specs.Grammar.{name}
use Rattle.mm_syntax.specs.Rules.{type_name, method_tail, after_virtual}
use Rattle.mm_cursor.proofs.Steps.{err}
use Rattle.mm_parse_class.specs.Parts.{destructor_from}
use Rattle.mm_parse_class.proofs.Exits as exit
use Rattle.mm_parse_class.proofs.member.after_virtual.Goals as goal

pub returns-in_err-tail-clause-reads : goal.returns-in_err-tail-clause-reads
returns-in_err-tail-clause-reads c =
    err (destructor_from c.in-Some.tilde.now) (after_virtual c.args.nesting) _ _ _ _ _ c.from_residual.ensures.1 c.in_err-tail.ensures.reads λ f. exit.virtual_no_destructor c.args.nesting _ _ _ c.in-Some.tilde.now c.in-Some.ensures c.in_err-tail.ensures.shorter f

pub returns-in-Some-clause-reads : goal.returns-in-Some-clause-reads
returns-in-Some-clause-reads c =
    exit.virtual_destructor c.args.nesting _ _ _ c.in-Some.tilde.now _ _ c.in-Some.ensures c.in_ok-tail.ensures.reads c.in_ok-virtual_destructor.ensures

pub returns-in_err-type_name-clause-reads : goal.returns-in_err-type_name-clause-reads
returns-in_err-type_name-clause-reads c =
    err (name type_name) (after_virtual c.args.nesting) _ _ _ _ _ c.from_residual-in_err-type_name.ensures.1 c.in_err-type_name.ensures.reads λ f. exit.virtual_no_type c.args.nesting _ _ _ c.in_default.ensures f

pub returns-in_err-tail-2-clause-reads : goal.returns-in_err-tail-2-clause-reads
returns-in_err-tail-2-clause-reads c =
    err (method_tail c.args.nesting) (after_virtual c.args.nesting) _ _ _ _ _ c.from_residual-in_err-tail-2.ensures.1 c.in_err-tail-2.ensures.reads λ f. exit.virtual_no_method c.args.nesting _ _ _ _ _ c.in_default.ensures c.in_ok-type_name.ensures.reads f

pub returns-clause-reads : goal.returns-clause-reads
returns-clause-reads c =
    exit.virtual_method c.args.nesting _ _ _ _ _ _ _ c.in_default.ensures c.in_ok-type_name.ensures.reads c.in_ok-tail-2.ensures.reads c.in_ok-virtual_method.ensures
