-- Loads and stores in one block that is held as halves.
use Rattle.std.proofs.Common.{◌≡◌, ◌≢◌, ℕ, ◌+◌, ◌*◌, ◌/◌, ◌%◌, ◌<◌, ◌≤◌, ◌↔◌, inl, inr, Bool, true, false, ◌&&◌, if◌then◌else◌, List, ◌∷◌, length, get_or, Some, None, refl, sym, ap, ◌∙◌, arith, eqb, leb, ⊎_elim}
use Rattle.std.proofs.lemmas.Bool.{cases_Bool, false≢true, le-leb, leb-true, eq-eqb, eqb-true}
use Rattle.std.proofs.lemmas.Bool.Decides.{leb_tells}
use Rattle.std.proofs.lemmas.List.{get_or_default}
use Rattle.std.proofs.Common.{slice_set}
use Rattle.std.proofs.lemmas.List.{get_or-set_same, get_or-set_other, length-set}
use Rattle.mm_c.specs.declared.value.CCell.{CCell}
use Rattle.mm_c.specs.declared.value.CCell.TheVariants as cell
use Rattle.mm_c.specs.declared.value.CValue.{CValue}
use Rattle.mm_c.specs.Memory.{width_of, zero_of, same_kind, Cell, has_room, latest, value_or, load_in, with_cell}
use Rattle.mm_c.specs.Memory as c
use Rattle.mm_c.proofs.Bools.{and_left, and_right}
use Rattle.mm_c_memory.specs.declared.memory.Half.{Half}
use Rattle.mm_c_memory.specs.declared.memory.Half.TheVariants as half
use Rattle.mm_c_memory.specs.declared.memory.Block.{Block}
use Rattle.mm_c_memory.specs.Held.{half_at, is_free, cell_in, kind_in, value_in, AreEmpty, WithInside, is_clear, HoldsBlock}
use Rattle.mm_c_memory.proofs.Halves.{even_width, cell_is, value_is, value_room, inside_room, empty_room, taken_room, free_is, latest_value, latest_none, stored_first, stored_within, stored_apart}

module _ (b : c.Block) (h : Block) (held : HoldsBlock b h) (kind : CCell) (offset : ℕ) (aligned : offset % width_of kind ≡ 0) (fits : offset / 2 + width_of kind / 2 ≤ length h.halves.items) where
  -- the offset is that of the half
  first_half : offset ≡ 2 * (offset / 2)
  first_half = go kind aligned
    where
      go : (kind : CCell) → offset % width_of kind ≡ 0 → offset ≡ 2 * (offset / 2)
      go cell.Int e = omega (arith, e)
      go cell.Unsigned e = omega (arith, e)
      go cell.Short e = omega (arith, e)
      go cell.Pointer e = omega (arith, e)

  in_block : offset + width_of kind ≤ b.size
  in_block = let f = first_half in let w = even_width kind in let n = held.count in omega (arith, f, w, n, fits)

  some_half : 0 < width_of kind / 2
  some_half = go kind
    where
      go : (kind : CCell) → 0 < width_of kind / 2
      go cell.Int = omega arith
      go cell.Unsigned = omega arith
      go cell.Short = omega arith
      go cell.Pointer = omega arith

  room_clear : has_room kind offset b ≡ is_clear kind (2 * (offset / 2)) b.cells
  room_clear =
      rw (le-leb (offset + width_of kind) b.size in_block, eq-eqb (offset % width_of kind) 0 aligned) (ap (λ o. is_clear kind o b.cells) first_half)

  half_is : (x : Half) → x ≡ get_or h.halves.items (offset / 2) x → half_at (offset / 2) b.cells ≡ x
  half_is x is =
      let lt : offset / 2 < length h.halves.items = let s = some_half in omega (arith, fits, s) in
      sym (held.halves (offset / 2) lt) ∙ get_or_default h.halves.items (offset / 2) half.Empty x lt ∙ sym is

  pub room_cell : (x : Half) (k : CCell) → x ≡ get_or h.halves.items (offset / 2) x → kind_in x ≡ Some k → has_room kind offset b ≡ same_kind k kind
  room_cell x k is e = let c = cell_is x k e in room_clear ∙ value_room kind (offset / 2) b.cells k c.0 held.stored (half_is x is ∙ c.1)

  room_inside : (x : Half) → x ≡ get_or h.halves.items (offset / 2) x → x ≡ half.Inside → has_room kind offset b ≡ false
  room_inside x is e = room_clear ∙ inside_room kind (offset / 2) b.cells (half_is x is ∙ e)

  -- the first of the halves is empty, and the answer is whether all are
  room_empty : (x : Half) (all : Bool) → x ≡ get_or h.halves.items (offset / 2) x → x ≡ half.Empty → ((all ≡ true) ↔ AreEmpty h.halves.items (offset / 2) (offset / 2 + width_of kind / 2)) → all ≡ has_room kind offset b
  room_empty x true is e tells =
      sym (room_clear ∙ empty_room kind (offset / 2) b.cells held.stored (λ j low below.
      let lt : j < length h.halves.items = omega (arith, fits, below) in
      sym (held.halves j lt) ∙ free_is _ (tells.0 refl j low below)))
  room_empty x false is e tells =
      ⊎_elim
      (λ room. absurd (false≢true (tells.1 (λ j low below.
      let lt : j < length h.halves.items = omega (arith, fits, below) in
      let same = held.halves j lt in
      ⊎_elim (λ t. t) (λ f. absurd (false≢true (sym (room_clear ∙ taken_room kind (offset / 2) j b.cells (half_is x is ∙ e) low below (ap is_free (sym same) ∙ f)) ∙ room))) (cases_Bool (is_free (get_or h.halves.items j half.Empty)))))))
      (λ none. sym none)
      (cases_Bool (has_room kind offset b))

  -- no cell begins in the first of the halves
  pub room_none : (x : Half) (all : Bool) → x ≡ get_or h.halves.items (offset / 2) x → kind_in x ≡ None → ((all ≡ true) ↔ AreEmpty h.halves.items (offset / 2) (offset / 2 + width_of kind / 2)) → all ≡ has_room kind offset b
  room_none half.Empty all is e tells = room_empty half.Empty all is refl tells
  room_none half.Inside true is e tells =
      let s = some_half in
      let lt : offset / 2 < length h.halves.items = omega (arith, fits, s) in
      absurd (false≢true (ap is_free (is ∙ sym (get_or_default h.halves.items (offset / 2) half.Empty half.Inside lt)) ∙ tells.0 refl (offset / 2) (omega arith) (omega (arith, s))))
  room_none half.Inside false is e tells = sym (room_inside half.Inside is refl)
  room_none (half.Int k z) all is e tells = cc
  room_none (half.Unsigned k n) all is e tells = cc
  room_none (half.Long k z) all is e tells = cc
  room_none (half.Null k) all is e tells = cc
  room_none (half.At k o b) all is e tells = cc

if_true : {A : Type 0} (b : Bool) (y z : A) → b ≡ true → (if b then y else z) ≡ y
if_true true y z e = refl
if_true false y z e = cc

-- what room says of where a cell is
pub record IsRoom (b : c.Block) (kind : CCell) (offset : ℕ) : Type 0 where
  pub within : offset + width_of kind ≤ b.size
  pub aligned : offset % width_of kind ≡ 0
  pub clear : is_clear kind offset b.cells ≡ true

pub room_is : (b : c.Block) (kind : CCell) (offset : ℕ) → has_room kind offset b ≡ true → IsRoom b kind offset
room_is b kind offset h =
    let fits = and_left (leb (offset + width_of kind) b.size && eqb (offset % width_of kind) 0) _ h in
    record {
      within = leb-true _ _ (and_left (leb (offset + width_of kind) b.size) _ fits);
      aligned = eqb-true _ _ (and_right (leb (offset + width_of kind) b.size) _ fits);
      clear = and_right (leb (offset + width_of kind) b.size && eqb (offset % width_of kind) 0) _ h;
    }

module _ (b : c.Block) (h : Block) (held : HoldsBlock b h) (kind : CCell) (offset : ℕ) (fits : offset / 2 + width_of kind / 2 ≤ length h.halves.items) (room : has_room kind offset b ≡ true) where
  at_half : offset ≡ 2 * (offset / 2)
  at_half = first_half b h held kind offset (room_is b kind offset room).aligned fits

  pub load_cell : (x : Half) (v : CValue) → x ≡ get_or h.halves.items (offset / 2) x → value_in x ≡ Some v → load_in kind offset (Some b) ≡ Some v
  load_cell x v is e =
      let c = value_is x v e in
      if_true (has_room kind offset b) _ _ room
      ∙ ap (λ o. Some (value_or (zero_of kind) (latest o b.cells))) at_half
      ∙ ap (λ q. Some (value_or (zero_of kind) q)) (latest_value (offset / 2) b.cells c.0 v (half_is b h held kind offset (room_is b kind offset room).aligned fits x is ∙ c.1))

  -- a half that begins no cell, where there is room, is empty
  load_other : (x : Half) → half_at (offset / 2) b.cells ≡ x → value_in x ≡ None → half_at (offset / 2) b.cells ≡ half.Empty
  load_other half.Empty is other = is
  load_other (half.Int k z) is other = cc
  load_other (half.Unsigned k n) is other = cc
  load_other (half.Long k z) is other = cc
  load_other (half.Null k) is other = cc
  load_other (half.At k o b) is other = cc
  load_other half.Inside is other =
      absurd (false≢true (sym (room_clear b h held kind offset (room_is b kind offset room).aligned fits ∙ inside_room kind (offset / 2) b.cells is) ∙ room))

  pub load_zero : (x : Half) → x ≡ get_or h.halves.items (offset / 2) x → value_in x ≡ None → load_in kind offset (Some b) ≡ Some (zero_of kind)
  load_zero x is other =
      if_true (has_room kind offset b) _ _ room
      ∙ ap (λ o. Some (value_or (zero_of kind) (latest o b.cells))) at_half
      ∙ ap (λ q. Some (value_or (zero_of kind) q)) (latest_none (offset / 2) b.cells (load_other x (half_is b h held kind offset (room_is b kind offset room).aligned fits x is) other))

  pub stored_there : (v : CValue) (halves : List Half) (after : Block) → halves ≡ slice_set h.halves.items (offset / 2) (cell_in kind v) → WithInside halves (offset / 2 + 1) (offset / 2 + width_of kind / 2) after.halves.items → after.size ≡ h.size → HoldsBlock (with_cell b kind offset v) after
  stored_there v halves after is inside size = record {
    size = size ∙ held.size;
    count = inside.count ∙ ap length is ∙ length-set h.halves.items (offset / 2) (cell_in kind v) ∙ held.count;
    halves = λ i lt. each i (omega (arith, lt, inside.count, ap length is ∙ length-set h.halves.items (offset / 2) (cell_in kind v)));
    stored = (offset / 2, (at_half, (room_is b kind offset room).clear, held.stored));
  }
    where
      x : Cell
      x = record { offset = offset; kind = kind; value = v }

      first : offset / 2 < length h.halves.items
      first = let s = some_half b h held kind offset (room_is b kind offset room).aligned fits in omega (arith, fits, s)

      w : width_of kind ≡ 2 * (width_of kind / 2)
      w = even_width kind

      other : (i : ℕ) → i < length h.halves.items → i ≢ offset / 2 → get_or halves i half.Empty ≡ half_at i b.cells
      other i lt n = ap (λ q. get_or q i half.Empty) is ∙ get_or-set_other h.halves.items (offset / 2) i (cell_in kind v) half.Empty n ∙ held.halves i lt

      each : (i : ℕ) → i < length h.halves.items → get_or after.halves.items i half.Empty ≡ half_at i (x ∷ b.cells)
      each i lt =
          let e = at_half in
          ⊎_elim
          (λ low. inside.before i (let l = low.1 in omega (arith, l))
          ∙ ⊎_elim
          (λ here. let q : i ≡ offset / 2 = let l = low.1 in let g = here.1 in omega (arith, l, g) in
          ap (λ j. get_or halves j half.Empty) q ∙ ap (λ q. get_or q (offset / 2) half.Empty) is ∙ get_or-set_same h.halves.items (offset / 2) (cell_in kind v) half.Empty first ∙ sym (stored_first (offset / 2) x b.cells e) ∙ ap (λ j. half_at j (x ∷ b.cells)) (sym q))
          (λ before. other i lt (λ q. let g = before.1 in let z : ⊥ = omega (arith, q, g) in z)
          ∙ sym (stored_apart i x b.cells (inl (let g = before.1 in omega (arith, e, g)))))
          (leb_tells (offset / 2) i))
          (λ high. ⊎_elim
          (λ behind. inside.behind i behind.1 ∙ other i lt (λ q. let g = high.1 in let z : ⊥ = omega (arith, q, g) in z)
          ∙ sym (stored_apart i x b.cells (inr (let g = behind.1 in omega (arith, e, g, w)))))
          (λ in_it. inside.inside i (let g = high.1 in omega (arith, g)) in_it.1
          ∙ sym (stored_within i x b.cells (let g = high.1 in omega (arith, e, g)) (let g = in_it.1 in omega (arith, e, g, w))))
          (leb_tells (offset / 2 + width_of kind / 2) i))
          (leb_tells i (offset / 2))
