use Rattle.std.proofs.Common.{◌≡◌, drop}
use Rattle.mm_c.specs.WellFormed.{is_long, list_every}
use Rattle.mm_c_rules.proofs.items.are_long.Given as goal

abbrev pub invariant-loop-element : goal.invariant-loop-element
invariant-loop-element l = list_every is_long l.elements ≡ list_every is_long (drop l.element-index l.elements)
