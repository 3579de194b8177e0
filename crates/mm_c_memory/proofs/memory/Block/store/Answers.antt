use Rattle.std.proofs.Common.{◌/◌, slice_set, sym, ap, refl, ◌∙◌}
use Rattle.mm_c_memory.proofs.Blocks.{stored_there}
use Rattle.mm_c_memory.proofs.memory.Block.store.Goals as goal

pub returns : goal.returns
returns c = λ b held.
    let room = sym (c.has_room.ensures.room b held) ∙ c.if-not-has_room.false in
    (room, stored_there b c.args.self.now held c.args.kind c.args.offset (c.has_room.ensures.within c.if-not-has_room.false) room c.args.value _ _ (ap (slice_set c.args.self.now.halves.items (c.args.offset / 2)) c.cell.ensures) (rw c.width_of.ensures at c.put_inside.ensures) refl)
