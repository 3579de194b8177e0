use Rattle.std.proofs.Common.{ap, ◌∙◌}
use Rattle.mm_c.specs.CMeaning.{fitted_in}
use Rattle.mm_c_placed.specs.View.{code_view}
use Rattle.mm_c_machine.specs.State.{seen}
use Rattle.mm_c_machine.proofs.Arrivals.{store_then, store_else}
use Rattle.mm_c_machine.proofs.machine.Machine.store.Goals as goal

pub returns-then-store : goal.returns-then-store
returns-then-store c = λ q m w holds.
    store_then q (seen c.args.self.now) m w c.args.kind c.args.p c.args.a.now (code_view c.args.more.now) c.place-pointer.result c.fitted_in-value.result c.store.new.self c.store.result c.requires
    c.place-pointer.ensures (c.fitted_in-value.ensures ∙ ap (fitted_in c.args.kind) c.value.ensures) (c.store.ensures m holds) c.if-store.true

pub returns-else-store : goal.returns-else-store
returns-else-store c = λ q m w holds.
    store_else q (seen c.args.self.now) m w c.args.kind c.args.p c.args.a.now (code_view c.args.more.now) c.place-pointer.result c.fitted_in-value.result c.store.new.self c.store.result
    c.place-pointer.ensures (c.fitted_in-value.ensures ∙ ap (fitted_in c.args.kind) c.value.ensures) (c.store.ensures m holds) c.if-store.false
