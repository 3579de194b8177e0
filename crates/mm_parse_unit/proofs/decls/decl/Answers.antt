use Rattle.std.proofs.Common.{subst}
use Rattle.mm_grammar.specs.Grammar.{name, alt}
use Rattle.mm_syntax.specs.Rules.{decl, void_type, number_type, after_type, after_class_name}
use Rattle.mm_cursor.specs.Cursor.{Answers}
use Rattle.mm_cursor.proofs.Steps.{err, tail}
use Rattle.mm_parse_class.specs.Parts.{class_declaration}
use Rattle.mm_parse_unit.proofs.Exits.{decl_class, decl_no_class, decl_after, decl_no_after, decl_no_type, decl_no_end, decl_typed}
use Rattle.mm_parse_unit.proofs.decls.decl.Goals as goal

pub returns-in-Some-clause-reads : goal.returns-in-Some-clause-reads
returns-in-Some-clause-reads c =
    tail (class_declaration c.args.nesting) (name (decl c.args.nesting)) _ _ _ _ (subst (λ w. Answers (class_declaration c.args.nesting) w c.class.result c.class.new.cursor) c.rest-start.ensures c.class.ensures.reads)
    (λ v a. decl_class c.args.nesting _ _ _ c.in-Some.word.now v c.in-Some.ensures a) (λ f. decl_no_class c.args.nesting _ _ _ c.in-Some.word.now c.in-Some.ensures c.class.ensures.shorter f)

pub returns-in_err-end-clause-reads : goal.returns-in_err-end-clause-reads
returns-in_err-end-clause-reads c =
    err (after_class_name c.args.nesting) (name (decl c.args.nesting)) _ _ _ _ _ c.from_residual.ensures.1 c.in_err-end.ensures.reads λ f. decl_no_after c.args.nesting _ _ _ _ c.in-Some-eat.word.now c.in_default.ensures c.in-Some-eat.ensures f

pub returns-in-Some-eat-clause-reads : goal.returns-in-Some-eat-clause-reads
returns-in-Some-eat-clause-reads c =
    decl_after c.args.nesting _ _ _ _ c.in-Some-eat.word.now _ _ c.in_default.ensures c.in-Some-eat.ensures c.in_ok-end.ensures.reads c.in_ok-after.ensures

pub returns-in_err-type_name-clause-reads : goal.returns-in_err-type_name-clause-reads
returns-in_err-type_name-clause-reads c =
    err (alt void_type number_type) (name (decl c.args.nesting)) _ _ _ _ _ c.from_residual-in_err-type_name.ensures.1 c.in_err-type_name.ensures.reads λ f. decl_no_type c.args.nesting _ _ _ _ c.in_default.ensures c.in_default-eat.ensures f

pub returns-in_err-declared-clause-reads : goal.returns-in_err-declared-clause-reads
returns-in_err-declared-clause-reads c =
    err (after_type c.args.nesting) (name (decl c.args.nesting)) _ _ _ _ _ c.from_residual-in_err-declared.ensures.1 c.in_err-declared.ensures.reads λ f. decl_no_end c.args.nesting _ _ _ _ _ _ c.in_default.ensures c.in_default-eat.ensures c.in_ok-type_name.ensures.reads f

pub returns-clause-reads : goal.returns-clause-reads
returns-clause-reads c =
    decl_typed c.args.nesting _ _ _ _ _ _ _ _ c.in_default.ensures c.in_default-eat.ensures c.in_ok-type_name.ensures.reads c.in_ok-declared.ensures.reads c.in_ok-typed.ensures
