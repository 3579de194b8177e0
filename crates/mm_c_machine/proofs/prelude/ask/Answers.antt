use Rattle.std.proofs.Common.{refl, sym, ◌∙◌, subst}
use Rattle.mm_base.specs.Calls.{world_view}
use Rattle.mm_c_machine.specs.Answers.{Answers}
use Rattle.mm_c_machine.specs.declared.prelude.Prelude.TheVariants as prelude
use Rattle.mm_c_machine.proofs.Ints.{no_ints}
use Rattle.mm_c_machine.proofs.Answering.{not_asked, gets, looks}
use Rattle.mm_c_machine.proofs.prelude.ask.Goals as goal

pub returns-then-not-all_ints : goal.returns-then-not-all_ints
returns-then-not-all_ints c = λ m held holds.
    not_asked m held (world_view c.args.world.now) (world_view c.args.world.now) c.args.which c.args.values.now refl (no_ints c.args.values.now (sym c.all_ints.ensures ∙ c.if-not-all_ints.true))

pub returns-in-Get : goal.returns-in-Get
returns-in-Get c = λ m held holds.
    subst (λ q. Answers c.call.result (prelude.Asks q) c.args.values.now m (world_view c.args.world.now) held (world_view c.call.new.world)) (sym c.in-Get.is)
    (gets m held _ _ c.args.values.now c.call.result holds (sym c.all_ints.ensures ∙ c.if-not-all_ints.false) c.call.ensures)

pub returns-in-More : goal.returns-in-More
returns-in-More c = λ m held holds.
    subst (λ q. Answers c.call-in-More.result (prelude.Asks q) c.args.values.now m (world_view c.args.world.now) held (world_view c.call-in-More.new.world)) (sym c.in-More.is)
    (looks m held _ _ c.args.values.now c.call-in-More.result holds (sym c.all_ints.ensures ∙ c.if-not-all_ints.false) c.call-in-More.ensures)
