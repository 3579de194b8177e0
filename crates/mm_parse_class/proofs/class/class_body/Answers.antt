use Rattle.std.proofs.Common.{[], ◌∷◌, arith}
use Rattle.mm_grammar.specs.Grammar.{opt}
use Rattle.mm_syntax.specs.declared.symbol.Symbol.TheVariants as k
use Rattle.mm_syntax.specs.Rules.{items, class_body}
use Rattle.mm_cursor.proofs.Steps.{err, eats_some, eats_none}
use Rattle.mm_parse_class.specs.Parts.{base_list, members}
use Rattle.mm_parse_class.proofs.Exits as exit
use Rattle.mm_parse_class.proofs.class.class_body.Goals as goal

pub returns-in_err-bases-clause-reads : goal.returns-in_err-bases-clause-reads
returns-in_err-bases-clause-reads c =
    let x = eats_some (k.Colon ∷ []) _ _ _ c.if-is_some.ensures c.eat.ensures in
    err base_list (opt (class_body c.args.nesting)) _ _ _ _ _ c.from_residual.ensures.1 c.in_err-bases.ensures.reads λ f. exit.body_no_bases c.args.nesting _ _ _ _ x.1 c.in_err-bases.ensures.shorter f

pub returns-in_err-members-clause-reads : goal.returns-in_err-members-clause-reads
returns-in_err-members-clause-reads c =
    let x = eats_some (k.Colon ∷ []) _ _ _ c.if-is_some.ensures c.eat.ensures in
    let l = c.in_err-members.ensures.shorter in
    err (items c.args.nesting) (opt (class_body c.args.nesting)) _ _ _ _ _ c.from_residual-in_err-members.ensures.1 c.in_err-members.ensures.reads λ f. exit.body_no_items c.args.nesting _ _ _ _ _ _ x.1 (omega (arith, l, c.in_ok-bases.ensures.shorter)) c.in_ok-bases.ensures.reads f

pub returns-then-is_some-clause-reads : goal.returns-then-is_some-clause-reads
returns-then-is_some-clause-reads c =
    let x = eats_some (k.Colon ∷ []) _ _ _ c.if-is_some.ensures c.eat.ensures in
    exit.body_with_bases c.args.nesting _ _ _ _ _ _ _ _ x.1 c.in_ok-bases.ensures.reads c.in_ok-members.ensures.reads c.in_ok-class_body.ensures

pub returns-in_err-members-2-clause-reads : goal.returns-in_err-members-2-clause-reads
returns-in_err-members-2-clause-reads c =
    let h = eats_none (k.Colon ∷ []) _ _ _ c.if-is_some.ensures c.eat.ensures in
    let x = eats_some (k.OpenBrace ∷ []) _ _ _ c.if-is_some-2.ensures c.eat-2.ensures in
    err (members c.args.nesting) (opt (class_body c.args.nesting)) _ _ _ _ _ c.from_residual-in_err-members-2.ensures.1 c.in_err-members-2.ensures.reads λ f. exit.body_no_members c.args.nesting _ _ _ _ _ h x.1 c.in_err-members-2.ensures.shorter f

pub returns-then-is_some-2-clause-reads : goal.returns-then-is_some-2-clause-reads
returns-then-is_some-2-clause-reads c =
    let h = eats_none (k.Colon ∷ []) _ _ _ c.if-is_some.ensures c.eat.ensures in
    let x = eats_some (k.OpenBrace ∷ []) _ _ _ c.if-is_some-2.ensures c.eat-2.ensures in
    exit.body_plain c.args.nesting _ _ _ _ _ _ _ _ h x.1 c.in_ok-members-2.ensures.reads c.new.ensures c.in_ok-class_body-2.ensures

pub returns-clause-reads : goal.returns-clause-reads
returns-clause-reads c =
    let h = eats_none (k.Colon ∷ []) _ _ _ c.if-is_some.ensures c.eat.ensures in
    exit.body_none c.args.nesting _ _ _ h (eats_none (k.OpenBrace ∷ []) _ _ _ c.if-is_some-2.ensures c.eat-2.ensures)
