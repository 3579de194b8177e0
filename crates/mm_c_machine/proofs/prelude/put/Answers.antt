use Rattle.std.proofs.Common.{◌<◌, length, rules}
use Rattle.std.proofs.lemmas.List.{get_or_default}
use Rattle.mm_c_machine.proofs.Answering.{puts}
use Rattle.mm_c_machine.proofs.prelude.put.Goals as goal

pub returns : goal.returns
returns c = λ m held holds.
    let some : 0 < length c.args.values.now = search rules in
    puts m held _ _ c.args.values.now c.put_one.result _ holds c.requires some (get_or_default c.args.values.now 0 _ _ some) c.put_one.ensures
