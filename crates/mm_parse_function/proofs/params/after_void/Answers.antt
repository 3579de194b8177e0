use Rattle.std.proofs.Common.{subst}
use Rattle.mm_grammar.specs.Grammar.{opt, Reads}
use Rattle.mm_syntax.specs.Built as b
use Rattle.mm_syntax.specs.Rules.{units, void_end}
use Rattle.mm_cursor.proofs.Steps.{err}
use Rattle.mm_parse_function.specs.Parts.{void_first, behind}
use Rattle.mm_parse_function.proofs.ParamExits.{void_no_end, void_no_more, void_and, void_only}
use Rattle.mm_parse_function.proofs.params.after_void.Goals as goal

pub returns-in_err-end-clause-reads : goal.returns-in_err-end-clause-reads
returns-in_err-end-clause-reads c =
    err (opt void_end) (void_first c.args.word.now) _ _ _ _ _ c.from_residual.ensures.1 c.in_err-end.ensures.reads λ f. void_no_end c.args.word.now _ _ f

pub returns-in_err-list-clause-reads : goal.returns-in_err-list-clause-reads
returns-in_err-list-clause-reads c =
    let a = subst (λ o. Reads units (opt void_end) c.args.cursor.now o c.void_end.new.cursor) c.in-Some.is c.in_ok-end.ensures.reads in
    err (behind c.in_ok-first.first) (void_first c.args.word.now) _ _ _ _ _ c.from_residual-in_err-list.ensures.1 c.in_err-list.ensures.reads λ f. void_no_more c.args.word.now _ _ _ _ _ a c.in_err-list.ensures.shorter f

pub returns-in-Some-clause-reads : goal.returns-in-Some-clause-reads
returns-in-Some-clause-reads c =
    let a = subst (λ o. Reads units (opt void_end) c.args.cursor.now o c.void_end.new.cursor) c.in-Some.is c.in_ok-end.ensures.reads in
    void_and c.args.word.now _ _ _ _ _ _ _ a c.in_ok-first.ensures c.in_ok-list.ensures.reads c.in_ok-params.ensures

pub returns-clause-reads : goal.returns-clause-reads
returns-clause-reads c =
    let a = subst (λ o. Reads units (opt void_end) c.args.cursor.now o c.void_end.new.cursor) c.in_default.is c.in_ok-end.ensures.reads in
    void_only c.args.word.now _ _ _ a (c.in_ok-void_alone.ensures (b.word_type c.args.word.now))
