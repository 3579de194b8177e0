use Rattle.mm_c_rules.specs.Keeps.{IsFirstBreak}
use Rattle.mm_c_read.specs.Refusals.{breaks_in}
use Rattle.std.proofs.Common.{subst}
use Rattle.mm_c_read.proofs.Broken.{first_place_is}
use Rattle.mm_c_read.proofs.broken_at.Goals as goal

pub returns-in-Some : goal.returns-in-Some
returns-in-Some c =
    let first = subst (IsFirstBreak (breaks_in c.args.parsed.now) c.len.result) c.in-Some.is c.in_ok-broken.ensures in
    first_place_is c.args.parsed.now c.len.result c.in-Some.number c.get.result c.requires c.len.ensures first.0 first.1 c.get.ensures
