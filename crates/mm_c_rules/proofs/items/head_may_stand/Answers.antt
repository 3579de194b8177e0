use Rattle.mm_c_rules.proofs.Both.{and_then, and_else}
use Rattle.mm_c_rules.proofs.items.head_may_stand.Goals as goal

pub returns-then-may_be_defined : goal.returns-then-may_be_defined
returns-then-may_be_defined c = and_then c.may_be_defined.result _ _ _ c.if-may_be_defined.true c.may_be_defined.ensures c.head_fits.ensures

pub returns-else-may_be_defined : goal.returns-else-may_be_defined
returns-else-may_be_defined c = and_else c.may_be_defined.result _ _ c.if-may_be_defined.false c.may_be_defined.ensures
