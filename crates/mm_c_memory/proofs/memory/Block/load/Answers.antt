use Rattle.std.proofs.Common.{ap, sym, ◌∙◌, Some}
use Rattle.mm_c_memory.proofs.Blocks.{load_cell, load_zero}
use Rattle.mm_c_memory.proofs.memory.Block.load.Goals as goal

pub returns-in-Some : goal.returns-in-Some
returns-in-Some c = λ b held.
    sym (load_cell b c.args.self.now held c.args.kind c.args.offset (c.has_room.ensures.within c.if-not-has_room.false) (sym (c.has_room.ensures.room b held) ∙ c.if-not-has_room.false) c.index.result.now c.in-Some.value c.index.ensures (sym c.value_in.ensures ∙ c.in-Some.is))

pub returns-in-None : goal.returns-in-None
returns-in-None c = λ b held.
    ap Some c.zero_of.ensures ∙ sym (load_zero b c.args.self.now held c.args.kind c.args.offset (c.has_room.ensures.within c.if-not-has_room.false) (sym (c.has_room.ensures.room b held) ∙ c.if-not-has_room.false) c.index.result.now c.index.ensures (sym c.value_in.ensures ∙ c.in-None.is))
