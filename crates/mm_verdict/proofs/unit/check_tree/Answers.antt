use Rattle.std.proofs.Common.{subst}
use Rattle.mm_verdict.specs.Verdict.{file_of}
use Rattle.mm_verdict.specs.Refusals.{IsFaultOr}
use Rattle.mm_verdict.proofs.Steps.{ill_typed}
use Rattle.mm_verdict.proofs.unit.check_tree.Goals as goal

pub returns-in-Err-Fault : goal.returns-in-Err-Fault
returns-in-Err-Fault c =
    let code = c.in-Err-Fault.code in
    let place = c.in-Err-Fault.place in
    let in_files = subst (λ fs. IsFaultOr c.fault.result (record { code = code; place = place; file = file_of fs place; text = c.as_str.result.now })) c.as_slice.ensures c.fault.ensures in
    let is = subst (λ t. IsFaultOr c.fault.result (record { code = code; place = place; file = file_of c.args.tokens.now.files place; text = t })) c.as_str.ensures in_files in
    λ unbuilt. ill_typed unbuilt c.fault.result c.args.name.now c.args.tokens.now c.args.tree.now code place c.in-Err-Fault.text (rw c.in-Err-Fault.field-0-is at c.in-Err-Fault.ensures.answers) is
