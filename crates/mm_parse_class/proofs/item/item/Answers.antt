use Rattle.mm_grammar.specs.Grammar.{name}
use Rattle.mm_syntax.specs.Rules.{item}
use Rattle.mm_cursor.proofs.Steps.{tail}
use Rattle.mm_parse_class.specs.Parts.{access_item, virtual_item, destructor_item, class_item, typed_item}
use Rattle.mm_parse_class.proofs.Exits as exit
use Rattle.mm_parse_class.proofs.item.item.Goals as goal

pub returns-in-Some-clause-reads : goal.returns-in-Some-clause-reads
returns-in-Some-clause-reads c =
    tail (access_item c.in-Some.word.now) (name (item c.args.nesting)) _ _ _ _ c.access_item.ensures.reads (λ v a. exit.item_access c.args.nesting _ _ _ c.in-Some.word.now v c.in-Some.ensures a) (λ f. exit.item_no_access c.args.nesting _ _ _ c.in-Some.word.now c.in-Some.ensures c.access_item.ensures.shorter f)

pub returns-in-Some-eat-clause-reads : goal.returns-in-Some-eat-clause-reads
returns-in-Some-eat-clause-reads c =
    tail (virtual_item c.in-Some-eat.word.now c.args.nesting) (name (item c.args.nesting)) _ _ _ _ c.virtual_item.ensures.reads (λ v a. exit.item_virtual c.args.nesting _ _ _ _ c.in-Some-eat.word.now v c.in_default.ensures c.in-Some-eat.ensures a) (λ f. exit.item_no_virtual c.args.nesting _ _ _ _ c.in-Some-eat.word.now c.in_default.ensures c.in-Some-eat.ensures c.virtual_item.ensures.shorter f)

pub returns-in-Some-eat-2-clause-reads : goal.returns-in-Some-eat-2-clause-reads
returns-in-Some-eat-2-clause-reads c =
    tail (destructor_item c.in-Some-eat-2.tilde.now) (name (item c.args.nesting)) _ _ _ _ c.destructor_item.ensures.reads (λ v a. exit.item_destructor c.args.nesting _ _ _ _ _ c.in-Some-eat-2.tilde.now v c.in_default.ensures c.in_default-eat.ensures c.in-Some-eat-2.ensures a) (λ f. exit.item_no_destructor c.args.nesting _ _ _ _ _ c.in-Some-eat-2.tilde.now c.in_default.ensures c.in_default-eat.ensures c.in-Some-eat-2.ensures c.destructor_item.ensures.shorter f)

pub returns-in-Some-eat-3-clause-reads : goal.returns-in-Some-eat-3-clause-reads
returns-in-Some-eat-3-clause-reads c =
    tail (class_item c.in-Some-eat-3.class.now c.args.nesting) (name (item c.args.nesting)) _ _ _ _ c.class_item.ensures.reads (λ v a. exit.item_class c.args.nesting _ _ _ _ _ _ c.in-Some-eat-3.class.now v c.in_default.ensures c.in_default-eat.ensures c.in_default-eat-2.ensures c.in-Some-eat-3.ensures a) (λ f. exit.item_no_class c.args.nesting _ _ _ _ _ _ c.in-Some-eat-3.class.now c.in_default.ensures c.in_default-eat.ensures c.in_default-eat-2.ensures c.in-Some-eat-3.ensures c.class_item.ensures.shorter f)

pub returns-clause-reads : goal.returns-clause-reads
returns-clause-reads c =
    tail (typed_item c.args.nesting) (name (item c.args.nesting)) _ _ _ _ c.typed_item.ensures.reads (λ v a. exit.item_typed c.args.nesting _ _ _ _ _ _ v c.in_default.ensures c.in_default-eat.ensures c.in_default-eat-2.ensures c.in_default-eat-3.ensures a) (λ f. exit.item_not_typed c.args.nesting _ _ _ _ _ _ c.in_default.ensures c.in_default-eat.ensures c.in_default-eat-2.ensures c.in_default-eat-3.ensures f)
