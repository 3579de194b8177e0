-- What a round needs and what it gives in the loop over the axes; and a table after its last round.
use Rattle.std.proofs.Common.{◌≡◌, ℕ, zero, suc, ◌+◌, ◌*◌, ◌/◌, ◌^◌, ◌<◌, ◌≤◌, List, [], ◌∷◌, ◌++◌, length, take, drop, get_or, set, sym, ◌∙◌, ap, refl, subst, arith, mul-le-mul_left, mul-le-mul_right}
use Rattle.std.proofs.lemmas.List.{append-nil, take_more, drop_more, get_or-map, length-map}
use Rattle.std.proofs.Math.Nat.{mul-div_cancel_left}
use Rattle.mm_pack.specs.Cells.{product, IsPlace, cell_at, AreAlike}
use Rattle.mm_pack.specs.Tables.{Table, slots_at, slot_of, HasCells, KeepsOnce, AreApart, AreInOrder, IsTable}
use Rattle.mm_pack.specs.Rounds.{IsRoundOf}
use Rattle.mm_pack.proofs.Axes.{ArePacked, step}

-- what the next round takes
pub record Fits (n cells : ℕ) : Type 0 where
  pub count : cells ≡ n * (cells / n)
  pub few : n ≤ 2 ^ 20
  pub narrow : cells / n ≤ 2 ^ 20

fitting : (n w cells : ℕ) → n * w ≡ cells → 0 < cells → cells ≤ 2 ^ 20 → (cells / n ≡ w) × (n ≤ 2 ^ 20) × (w ≤ 2 ^ 20)
fitting zero w cells e some small = absurd (omega arith)
fitting (suc n) zero cells e some small = absurd (omega arith)
fitting (suc n) (suc w) cells e some small = (by_division, grind (arith, mul-le-mul_left (suc n) one), grind (arith, mul-le-mul_right (suc w) one'))
  where
    one : 1 ≤ suc w
    one = omega arith

    one' : 1 ≤ suc n
    one' = omega arith

    by_division : cells / suc n ≡ suc w
    by_division = ap (λ x. x / suc n) (sym e) ∙ mul-div_cancel_left (suc w) one'

module _ (shape : List ℕ) (k : ℕ) (done : List ℕ) (slots : List (List ℕ)) (full now : List ℕ) (here : k < length shape)
    (p : ArePacked shape (take k shape) (drop k shape) done slots full now) where
  open_axis : ArePacked shape (take k shape) (get_or shape k 0 ∷ drop (k + 1) shape) done slots full now
  open_axis = subst (λ back. ArePacked shape (take k shape) back done slots full now) (drop_more shape k 0 here) p

  pub fits : length full ≤ 2 ^ 20 → Fits (get_or shape k 0) (length now)
  fits small =
      let f : (length now / get_or shape k 0 ≡ product (drop (k + 1) shape ++ done)) × (get_or shape k 0 ≤ 2 ^ 20) × (product (drop (k + 1) shape ++ done) ≤ 2 ^ 20)
      = fitting (get_or shape k 0) (product (drop (k + 1) shape ++ done)) (length now) open_axis.count p.some (omega (arith, p.small)) in
      record { count = sym open_axis.count ∙ ap (λ w. get_or shape k 0 * w) (sym f.0); few = f.1; narrow = subst (λ w. w ≤ 2 ^ 20) (sym f.0) f.2 }

  pub stepped : (kept : ℕ) (numbers turned : List ℕ) → length full ≤ 2 ^ 20 → IsRoundOf now (get_or shape k 0) (length now / get_or shape k 0) kept numbers turned
      → ArePacked shape (take (k + 1) shape) (drop (k + 1) shape) (done ++ kept ∷ []) (slots ++ numbers ∷ []) full turned
  stepped kept numbers turned small r =
      let f : (length now / get_or shape k 0 ≡ product (drop (k + 1) shape ++ done)) × (get_or shape k 0 ≤ 2 ^ 20) × (product (drop (k + 1) shape ++ done) ≤ 2 ^ 20)
      = fitting (get_or shape k 0) (product (drop (k + 1) shape ++ done)) (length now) open_axis.count p.some (omega (arith, p.small)) in
      subst (λ front. ArePacked shape front (drop (k + 1) shape) (done ++ kept ∷ []) (slots ++ numbers ∷ []) full turned) (sym (take_more shape k 0 here))
      (step shape (take k shape) (get_or shape k 0) (drop (k + 1) shape) done slots full now kept numbers turned open_axis
      (subst (λ w. IsRoundOf now (get_or shape k 0) w kept numbers turned) f.0 r))

-- a place with another number along an axis
place_set : (ns ps : List ℕ) (axis i : ℕ) → IsPlace ns ps → i < get_or ns axis 0 → IsPlace ns (set ps axis i)
place_set [] [] axis i h k = tt
place_set [] (p ∷ ps) axis i h k = absurd h
place_set (n ∷ ns) [] axis i h k = absurd h
place_set (n ∷ ns) (p ∷ ps) zero i h k = (k, h.1)
place_set (n ∷ ns) (p ∷ ps) (suc axis) i h k = (h.0, place_set ns ps axis i h.1 k)

slots_at-set : (xss : List (List ℕ)) (ps : List ℕ) (axis i : ℕ) → slots_at xss (set ps axis i) ≡ set (slots_at xss ps) axis (slot_of xss axis i)
slots_at-set [] ps axis i = refl
slots_at-set (xs ∷ xss) [] axis i = refl
slots_at-set (xs ∷ xss) (p ∷ ps) zero i = refl
slots_at-set (xs ∷ xss) (p ∷ ps) (suc axis) i = ap (λ x. get_or xs p 0 ∷ x) (slots_at-set xss ps axis i)

module _ (shape full : List ℕ) (t : Table) (p : ArePacked shape shape [] t.shape t.slots full t.cells) where
  pub has_cells : HasCells shape full t
  has_cells place h = p.cells place [] h tt ∙ ap (cell_at shape full) (append-nil place)

  pub keeps_once : KeepsOnce shape full t
  keeps_once = p.once

  pub in_order : AreInOrder t
  in_order axis h = p.order axis (subst (λ n. axis < n) p.axes h)

  -- the number of slots of an axis is its length
  slot_count : (axis : ℕ) → axis < length shape → length (get_or t.slots axis []) ≡ get_or shape axis 0
  slot_count axis h =
      let long : length t.slots ≡ length shape = sym (length-map t.slots length) ∙ ap length p.lengths in
      let inside : axis < length t.slots = subst (λ n. axis < n) (sym long) h in
      sym (get_or-map length t.slots axis [] 0 inside) ∙ ap (λ xs. get_or xs axis 0) p.lengths

  -- slices of the kept table are slices of the full one
  alike_full : (axis i j : ℕ) → axis < length shape → i < get_or shape axis 0 → j < get_or shape axis 0
      → AreAlike t.shape t.cells axis (slot_of t.slots axis i) (slot_of t.slots axis j) → AreAlike shape full axis i j
  alike_full axis i j h li lj same place here =
      sym (has_cells (set place axis i) (place_set shape place axis i here li))
      ∙ ap (cell_at t.shape t.cells) (slots_at-set t.slots place axis i)
      ∙ same (slots_at t.slots place) (p.low place here)
      ∙ ap (cell_at t.shape t.cells) (sym (slots_at-set t.slots place axis j))
      ∙ has_cells (set place axis j) (place_set shape place axis j here lj)

  pub are_apart : AreApart t
  are_apart axis a b h less low same =
      let inside : axis < length shape = subst (λ n. axis < n) p.axes h in
      let count : length (get_or t.slots axis []) ≡ get_or shape axis 0 = slot_count axis inside in
      let low' : a < get_or t.shape axis 0 = omega arith in
      let u : (i : ℕ) × (i < length (get_or t.slots axis [])) × (slot_of t.slots axis i ≡ a) = (in_order axis h).used a low' in
      let v : (j : ℕ) × (j < length (get_or t.slots axis [])) × (slot_of t.slots axis j ≡ b) = (in_order axis h).used b low in
      let li : u.0 < get_or shape axis 0 = subst (λ n. u.0 < n) count u.1 in
      let lj : v.0 < get_or shape axis 0 = subst (λ n. v.0 < n) count v.1 in
      let same' : AreAlike t.shape t.cells axis (slot_of t.slots axis u.0) (slot_of t.slots axis v.0)
      = subst (λ x. AreAlike t.shape t.cells axis x (slot_of t.slots axis v.0)) (sym u.2) (subst (λ x. AreAlike t.shape t.cells axis a x) (sym v.2) same) in
      let one : slot_of t.slots axis u.0 ≡ slot_of t.slots axis v.0 = (p.once axis u.0 v.0 inside li lj).1 (alike_full axis u.0 v.0 inside li lj same') in
      let e : a ≡ b = sym u.2 ∙ one ∙ v.2 in
      absurd (omega arith)

  pub is_table : length full ≤ 2 ^ 20 → IsTable t
  is_table small = record {
    axes = sym (length-map t.slots length) ∙ ap length p.lengths ∙ sym p.axes;
    count = p.count;
    small = omega (arith, p.small);
    low = λ axis place h k. (in_order axis h).low place k;
  }
