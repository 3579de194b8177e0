use Rattle.mm_syntax.specs.Rules.{base}
use Rattle.mm_cursor.proofs.Steps.{tail}
use Rattle.mm_parse_class.specs.Parts.{virtual_base, access_base}
use Rattle.mm_parse_class.proofs.Exits.{base_class, base_virtual, base_no_virtual, base_access, base_no_access}
use Rattle.mm_parse_class.proofs.base.base.Goals as goal

pub returns-in-Some-clause-reads : goal.returns-in-Some-clause-reads
returns-in-Some-clause-reads c =
    base_class _ _ _ _ c.in-Some.ensures c.in_ok-base.ensures

pub returns-in-Some-eat-clause-reads : goal.returns-in-Some-eat-clause-reads
returns-in-Some-eat-clause-reads c =
    tail (virtual_base c.in-Some-eat.word.now) base _ _ _ _ c.virtual_base.ensures.reads (λ v a. base_virtual _ _ _ _ c.in-Some-eat.word.now v c.in_default.ensures c.in-Some-eat.ensures a) (λ f. base_no_virtual _ _ _ _ c.in-Some-eat.word.now c.in_default.ensures c.in-Some-eat.ensures c.virtual_base.ensures.shorter f)

pub returns-clause-reads : goal.returns-clause-reads
returns-clause-reads c =
    tail access_base base _ _ _ _ c.access_base.ensures.reads (λ v a. base_access _ _ _ _ v c.in_default.ensures c.in_default-eat.ensures a) (λ f. base_no_access _ _ _ _ c.in_default.ensures c.in_default-eat.ensures f)
