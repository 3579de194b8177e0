use Rattle.std.proofs.Common.{◌≡◌, ◌+◌, ◌*◌, ◌<◌, ◌^◌, ℕ, List, [], length, drop, get_or, Fits, w64, arith, sym, ◌∙◌, ap, subst}
use Rattle.std.proofs.lemmas.List.{length-map, get_or_read}
use Rattle.mm_pack.specs.Cells.{product, index_of}
use Rattle.mm_pack.specs.Inside.{lists_in}
use Rattle.mm_pack.specs.Tables.{Table, IsTable, slots_at, slot_of}
use Rattle.mm_pack.proofs.At.{long, inside, place_low, walk_more, walk_low, walk_end}
use Rattle.mm_pack.proofs.table.Packed.at.Goals as goal

-- one axis, from what is read of it
step_is : (t : Table) (axis index n s : ℕ) (place : List ℕ) → n ≡ get_or t.shape axis 0 → s ≡ slot_of t.slots axis (get_or place axis 0)
    → index * get_or t.shape axis 0 + slot_of t.slots axis (get_or place axis 0) ≡ index * n + s
step_is t axis index n s place e f = ap (λ x. index * x + slot_of t.slots axis (get_or place axis 0)) (sym e) ∙ ap (λ x. index * n + x) (sym f)

small_sum : (a b c : ℕ) → c ≡ a + b → c < 2 ^ 20 → (Fits w64 a) × (Fits w64 (a + b))
small_sum a b c e h = (omega (arith, e, h), omega (arith, e, h))

-- what a walk has read of a table at an axis
pub record Reads (t : Table) (axis n s : ℕ) (place : List ℕ) : Type 0 where
  pub length_is : n ≡ get_or t.shape axis 0
  pub slot_is : s ≡ slot_of t.slots axis (get_or place axis 0)

reads : (t : Table) (axis n s : ℕ) (place shape : List ℕ) (slots : List (List ℕ)) → shape ≡ t.shape → slots ≡ t.slots → axis < length shape
    → n ≡ get_or shape axis n → s ≡ slot_of slots axis (get_or place axis 0) → Reads t axis n s place
reads t axis n s place shape slots e f h r q = record {
  length_is = get_or_read shape axis n h r 0 ∙ ap (λ xs. get_or xs axis 0) e;
  slot_is = q ∙ ap (λ xs. slot_of xs axis (get_or place axis 0)) f;
}

low_shape : (t : Table) (axis : ℕ) (place shape : List ℕ) → IsTable t → length place ≡ length t.slots → shape ≡ t.shape → axis < length place → axis < length shape
low_shape t axis place shape p e f h = subst (λ n. axis < n) (e ∙ p.axes ∙ ap length (sym f)) h

pub slot_in-slot-requires : goal.slot_in-slot-requires
slot_in-slot-requires c =
    let t : Table = c.args.self.now in
    let p : IsTable t = subst IsTable c.self.view_is c.self.invariant in
    let slots : lists_in c.as_slice.result.now ≡ t.slots = ap lists_in c.as_slice.ensures.value ∙ ap (λ (t : Table). t.slots) c.self.view_is in
    record {
      axis = subst (λ n. c.loop-axis.axis < n) (long t p c.args.place.now c.requires ∙ ap length (sym slots) ∙ length-map c.as_slice.result.now (λ v. v.items)) c.loop-axis-test.true;
      place = subst (λ xs. get_or c.args.place.now c.loop-axis.axis 0 < length (get_or xs c.loop-axis.axis [])) (sym slots) (place_low t p c.args.place.now c.requires c.loop-axis.axis c.loop-axis-test.true);
    }

pub index-requires : goal.index-requires
index-requires c =
    let t : Table = c.args.self.now in
    let p : IsTable t = subst IsTable c.self.view_is c.self.invariant in
    let low : c.loop-axis.axis < length c.self.inside.shape.items
    = low_shape t c.loop-axis.axis c.args.place.now c.self.inside.shape.items p (long t p c.args.place.now c.requires) (ap (λ (t : Table). t.shape) c.self.view_is) c.loop-axis-test.true in
    omega (arith, c.self.inside.shape.ok)

pub overflow_mul-index : goal.overflow_mul-index
overflow_mul-index c =
    let t : Table = c.args.self.now in
    let p : IsTable t = subst IsTable c.self.view_is c.self.invariant in
    let slots : lists_in c.as_slice.result.now ≡ t.slots = ap lists_in c.as_slice.ensures.value ∙ ap (λ (t : Table). t.slots) c.self.view_is in
    let shape : c.self.inside.shape.items ≡ t.shape = ap (λ (t : Table). t.shape) c.self.view_is in
    let r : Reads t c.loop-axis.axis c.index.result.now c.slot_in-slot.result c.args.place.now
    = reads t c.loop-axis.axis c.index.result.now c.slot_in-slot.result c.args.place.now c.self.inside.shape.items (lists_in c.as_slice.result.now) shape slots
    (low_shape t c.loop-axis.axis c.args.place.now c.self.inside.shape.items p (long t p c.args.place.now c.requires) shape c.loop-axis-test.true) c.index.ensures c.slot_in-slot.ensures in
    (small_sum (c.loop-axis.index * c.index.result.now) c.slot_in-slot.result _ (step_is t c.loop-axis.axis c.loop-axis.index c.index.result.now c.slot_in-slot.result c.args.place.now r.length_is r.slot_is)
    (walk_low t p c.args.place.now c.requires c.loop-axis.axis c.loop-axis.index c.loop-axis-test.true c.loop-axis.invariant.same)).0

pub overflow_add-index : goal.overflow_add-index
overflow_add-index c =
    let t : Table = c.args.self.now in
    let p : IsTable t = subst IsTable c.self.view_is c.self.invariant in
    let slots : lists_in c.as_slice.result.now ≡ t.slots = ap lists_in c.as_slice.ensures.value ∙ ap (λ (t : Table). t.slots) c.self.view_is in
    let shape : c.self.inside.shape.items ≡ t.shape = ap (λ (t : Table). t.shape) c.self.view_is in
    let r : Reads t c.loop-axis.axis c.index.result.now c.slot_in-slot.result c.args.place.now
    = reads t c.loop-axis.axis c.index.result.now c.slot_in-slot.result c.args.place.now c.self.inside.shape.items (lists_in c.as_slice.result.now) shape slots
    (low_shape t c.loop-axis.axis c.args.place.now c.self.inside.shape.items p (long t p c.args.place.now c.requires) shape c.loop-axis-test.true) c.index.ensures c.slot_in-slot.ensures in
    (small_sum (c.loop-axis.index * c.index.result.now) c.slot_in-slot.result _ (step_is t c.loop-axis.axis c.loop-axis.index c.index.result.now c.slot_in-slot.result c.args.place.now r.length_is r.slot_is)
    (walk_low t p c.args.place.now c.requires c.loop-axis.axis c.loop-axis.index c.loop-axis-test.true c.loop-axis.invariant.same)).1

pub loop-axis-preserved : goal.loop-axis-preserved
loop-axis-preserved c =
    let t : Table = c.args.self.now in
    let p : IsTable t = subst IsTable c.self.view_is c.self.invariant in
    let slots : lists_in c.as_slice.result.now ≡ t.slots = ap lists_in c.as_slice.ensures.value ∙ ap (λ (t : Table). t.slots) c.self.view_is in
    let shape : c.self.inside.shape.items ≡ t.shape = ap (λ (t : Table). t.shape) c.self.view_is in
    let r : Reads t c.loop-axis.axis c.index.result.now c.slot_in-slot.result c.args.place.now
    = reads t c.loop-axis.axis c.index.result.now c.slot_in-slot.result c.args.place.now c.self.inside.shape.items (lists_in c.as_slice.result.now) shape slots
    (low_shape t c.loop-axis.axis c.args.place.now c.self.inside.shape.items p (long t p c.args.place.now c.requires) shape c.loop-axis-test.true) c.index.ensures c.slot_in-slot.ensures in
    record {
      low = omega arith;
      same = ap (λ x. x * product (drop (c.loop-axis.axis + 1) t.shape) + index_of (drop (c.loop-axis.axis + 1) t.shape) (slots_at (drop (c.loop-axis.axis + 1) t.slots) (drop (c.loop-axis.axis + 1) c.args.place.now)))
          (sym (step_is t c.loop-axis.axis c.loop-axis.index c.index.result.now c.slot_in-slot.result c.args.place.now r.length_is r.slot_is))
          ∙ walk_more t p c.args.place.now c.requires c.loop-axis.axis c.loop-axis.index c.loop-axis-test.true c.loop-axis.invariant.same;
    }

-- the index at the end is in the cells
low_end : (t : Table) (p : IsTable t) (place cells : List ℕ) (index total : ℕ) → cells ≡ t.cells → index ≡ total → total < length t.cells → index < length cells
low_end t p place cells index total e f h = subst (λ n. n < length cells) (sym f) (subst (λ xs. total < length xs) (sym e) h)

pub index-requires-2 : goal.index-requires-2
index-requires-2 c =
    let t : Table = c.args.self.now in
    let p : IsTable t = subst IsTable c.self.view_is c.self.invariant in
    let low : c.loop-axis.index < length c.self.inside.cells.items
    = low_end t p c.args.place.now c.self.inside.cells.items c.loop-axis.index _ (ap (λ (t : Table). t.cells) c.self.view_is)
    (walk_end t p c.args.place.now c.requires c.loop-axis.axis c.loop-axis.index c.loop-axis-test.false c.loop-axis.invariant.same) (inside t p c.args.place.now c.requires) in
    omega (arith, c.self.inside.cells.ok)

pub returns : goal.returns
returns c =
    let t : Table = c.args.self.now in
    let p : IsTable t = subst IsTable c.self.view_is c.self.invariant in
    let cells : c.self.inside.cells.items ≡ t.cells = ap (λ (t : Table). t.cells) c.self.view_is in
    let last : c.loop-axis.index ≡ index_of t.shape (slots_at t.slots c.args.place.now)
    = walk_end t p c.args.place.now c.requires c.loop-axis.axis c.loop-axis.index c.loop-axis-test.false c.loop-axis.invariant.same in
    let low : c.loop-axis.index < length c.self.inside.cells.items
    = low_end t p c.args.place.now c.self.inside.cells.items c.loop-axis.index _ cells last (inside t p c.args.place.now c.requires) in
    get_or_read c.self.inside.cells.items c.loop-axis.index c.index-2.result.now low c.index-2.ensures 0
    ∙ ap (λ xs. get_or xs c.loop-axis.index 0) cells ∙ ap (λ i. get_or t.cells i 0) last
