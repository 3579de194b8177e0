use Rattle.std.proofs.Common.{[], ◌∷◌, length, take, ◌-◌, ap, ◌∙◌}
use Rattle.mm_grammar.specs.Grammar.{opt}
use Rattle.mm_syntax.specs.declared.symbol.Symbol.TheVariants as k
use Rattle.mm_syntax.specs.BuiltDeclarations as bd
use Rattle.mm_syntax.specs.Rules.{class_body}
use Rattle.mm_cursor.proofs.Steps.{err, err_take}
use Rattle.mm_parse_class.specs.Parts.{class_declaration}
use Rattle.mm_parse_class.proofs.Exits as exit
use Rattle.mm_parse_class.proofs.class.class.Goals as goal

pub returns-in_err-name-clause-reads : goal.returns-in_err-name-clause-reads
returns-in_err-name-clause-reads c =
    err_take (k.Class ∷ []) (class_declaration c.args.nesting) _ _ _ _ _ c.from_residual.ensures.1 c.in_err-name.ensures.reads λ f. exit.class_no_name c.args.nesting _ _ _ c.args.word.now (c.requires.first, c.requires.key) f

pub returns-in_err-body-clause-reads : goal.returns-in_err-body-clause-reads
returns-in_err-body-clause-reads c =
    err (opt (class_body c.args.nesting)) (class_declaration c.args.nesting) _ _ _ _ _ c.from_residual-in_err-body.ensures.1 c.in_err-body.ensures.reads λ f. exit.class_no_body c.args.nesting _ _ _ _ c.args.word.now _ (c.requires.first, c.requires.key) c.in_ok-name.ensures.reads f

pub returns-in_err-take-clause-reads : goal.returns-in_err-take-clause-reads
returns-in_err-take-clause-reads c =
    err_take (k.Semicolon ∷ []) (class_declaration c.args.nesting) _ _ _ _ _ c.from_residual-in_err-take.ensures.1 c.in_err-take.ensures.reads λ f. exit.class_unclosed c.args.nesting _ _ _ _ _ c.args.word.now _ _ (c.requires.first, c.requires.key) c.in_ok-name.ensures.reads c.in_ok-body.ensures.reads f

pub returns-clause-reads : goal.returns-clause-reads
returns-clause-reads c =
    exit.class_reads c.args.nesting _ _ _ _ _ c.args.word.now _ _ _ _ (c.requires.first, c.requires.key) c.in_ok-name.ensures.reads c.in_ok-body.ensures.reads c.in_ok-take.ensures.reads (c.in_ok-class_decl.ensures ∙ ap (λ w. bd.class_decl (take (length c.args.start.now - length w) c.args.start.now) c.args.word.now c.in_ok-name.name.now c.in_ok-body.body) c.rest.ensures)
