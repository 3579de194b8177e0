use Rattle.std.proofs.Common.{◌≡◌, ◌<◌, ℕ, List, [], length, get_or, sym, ◌∙◌, ap, subst}
use Rattle.std.proofs.lemmas.List.{get_or-map}
use Rattle.mm_pack.specs.Inside.{lists_in}
use Rattle.mm_pack.specs.Tables.{Table, IsTable, slot_of, full_shape}
use Rattle.mm_pack.proofs.table.Packed.slot.Goals as goal

slot_low : (t : Table) (axis place s : ℕ) (slots : List (List ℕ)) → IsTable t → axis < length t.shape → place < get_or (full_shape t.slots) axis 0 → slots ≡ t.slots
    → s ≡ slot_of slots axis place → s < get_or t.shape axis 0
slot_low t axis place s slots p h k e f =
    let inside : axis < length t.slots = subst (λ n. axis < n) (sym p.axes) h in
    let low : place < length (get_or t.slots axis []) = subst (λ n. place < n) (get_or-map length t.slots axis [] 0 inside) k in
    subst (λ n. n < get_or t.shape axis 0) (sym (f ∙ ap (λ xs. slot_of xs axis place) e)) (p.low axis place h low)

pub returns-clause-low : goal.returns-clause-low
returns-clause-low c = slot_low c.args.self.now c.args.axis c.args.place c.slot_in.result (lists_in c.as_slice.result.now) (subst IsTable c.self.view_is c.self.invariant)
    c.requires.axis c.requires.place (ap lists_in c.as_slice.ensures.value ∙ ap (λ (t : Table). t.slots) c.self.view_is) c.slot_in.ensures
