use Rattle.std.proofs.Common.{[], subst}
use Rattle.mm_verdict.specs.Verdict.{file_of}
use Rattle.mm_verdict.specs.Refusals.{IsFaultOr}
use Rattle.mm_verdict.proofs.Steps.{syntactic}
use Rattle.mm_verdict.proofs.unit.parse.Goals as goal

pub returns-in-Err-Fault : goal.returns-in-Err-Fault
returns-in-Err-Fault c =
    let place = c.in-Err-Fault.place in
    let is = subst (λ fs. IsFaultOr c.fault.result (record { code = c.in-Err-Fault.code; place = place; file = file_of fs place; text = [] })) c.as_slice.ensures c.fault.ensures in
    λ unbuilt. syntactic unbuilt c.fault.result c.args.name.now c.args.tokens.now c.in-Err-Fault.code place (rw c.in-Err-Fault.field-0-is at c.in-Err-Fault.ensures) is
