use Rattle.std.proofs.Common.{[], sym, subst}
use Rattle.std.specs.Prelude.{IfOk}
use Rattle.mm_base.specs.Calls.{world_view}
use Rattle.mm_c.specs.View.{program_view}
use Rattle.mm_c_placed.specs.Meaning.{run_of}
use Rattle.mm_c_placed.specs.View as placed
use Rattle.mm_c_machine.specs.Answers.{state}
use Rattle.mm_c_machine.specs.Runs.{EndsAs}
use Rattle.mm_command.specs.Due.{Ran}
use Rattle.mm_command.specs.Writing.{IsOutcome}
use Rattle.mm_top.specs.Runs.{outcome_with}
use Rattle.mm_top.proofs.Runs.{outcome_is}
use Rattle.mm_top.proofs.running.run_on.Goals as goal

pub returns : goal.returns
returns c =
    let q = placed.program_view c.in_ok-placed.placed in
    let w = world_view c.run.new.world in
    let ends = subst (λ v. EndsAs c.in_ok-end.end w (run_of q c.args.steps (state [] v))) c.new-world.ensures c.in_ok-end.ensures.ok in
    subst (λ o. IfOk c.told.result (λ x. IsOutcome (Ran o) x))
    (sym (outcome_is (program_view c.args.program.now) q c.args.numbers.items c.args.steps c.in_ok-end.end w c.in_ok-placed.ensures.runs ends))
    (subst (λ ps. IfOk c.told.result (λ x. IsOutcome (Ran (outcome_with c.in_ok-end.end ps)) x)) c.as_slice.ensures.value c.told.ensures)
