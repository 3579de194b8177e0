-- The digits of a name's number are those that printing writes.
use Rattle.std.proofs.Common.{◌≡◌, ℕ, ◌^◌, ◌<◌, sym}
use Rattle.std.specs.Fmt.{decimal}
use Rattle.mm_simulate.specs.Names.{numeral}
use Rattle.mm_simulate.proofs.Decimals.{numeral_printed}

pub numeral_decimal : (n : ℕ) → n < 2 ^ 64 → numeral n ≡ decimal n
numeral_decimal n h = sym (numeral_printed n h)

pub ruleset name_rules = (numeral_decimal)
