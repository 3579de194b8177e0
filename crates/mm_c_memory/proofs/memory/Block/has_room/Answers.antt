use Rattle.std.proofs.Common.{sym, ◌∙◌, arith}
use Rattle.mm_c_memory.proofs.Blocks.{room_cell, room_none}
use Rattle.mm_c_memory.proofs.memory.Block.has_room.Goals as goal

pub returns-in-Some-clause-room : goal.returns-in-Some-clause-room
returns-in-Some-clause-room c = λ b held.
    c.same_kind.ensures ∙ sym (room_cell b c.args.self.now held c.args.kind c.args.offset (rw c.width_of-width.ensures at c.if-offset-width-ne0.false) (let e = rw (c.width_of-width.ensures, c.len.ensures) at c.if-end-len.false in omega (arith, e, c.args.self.now.halves.ok.0)) c.index.result.now c.in-Some.there c.index.ensures (sym c.kind_in.ensures ∙ c.in-Some.is))

pub returns-in-None-clause-room : goal.returns-in-None-clause-room
returns-in-None-clause-room c = λ b held.
    room_none b c.args.self.now held c.args.kind c.args.offset (rw c.width_of-width.ensures at c.if-offset-width-ne0.false) (let e = rw (c.width_of-width.ensures, c.len.ensures) at c.if-end-len.false in omega (arith, e, c.args.self.now.halves.ok.0)) c.index.result.now c.are_empty.result c.index.ensures (sym c.kind_in.ensures ∙ c.in-None.is)
    (rw (c.as_slice.ensures.value, c.width_of-width.ensures) at c.are_empty.ensures)
