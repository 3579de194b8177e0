use Rattle.std.proofs.Common.{◌+◌, take, subst}
use Rattle.mm_parse_unit.specs.Reading.{GoesOn}
use Rattle.mm_parse_unit.proofs.Faults.{too_deep, no_unit_at}
use Rattle.mm_parse_unit.proofs.fault_at.Goals as goal

pub returns-in-Ok-true : goal.returns-in-Ok-true
returns-in-Ok-true c end =
    too_deep c.args.tokens.now c.args.at c.index-tokens-at.result end c.requires.within c.requires.stops (subst (λ v. GoesOn (take (c.args.at + 1) c.args.tokens.now) v) c.in-Ok-true.field-0-test c.in-Ok-true.ensures)

pub returns-in-Ok-false : goal.returns-in-Ok-false
returns-in-Ok-false c end =
    no_unit_at c.args.tokens.now c.args.at c.index-tokens-at.result end c.requires.short c.requires.within c.requires.stops (subst (λ v. GoesOn (take (c.args.at + 1) c.args.tokens.now) v) c.in-Ok-false.field-0-test c.in-Ok-false.ensures)
