-- A table after some of its rounds.
use Rattle.std.proofs.Common.{◌≡◌, ◌↔◌, ℕ, zero, suc, ◌+◌, ◌*◌, ◌<◌, ◌≤◌, inl, inr, List, [], ◌∷◌, ◌++◌, length, get_or, set, sym, ◌∙◌, ap, refl, subst, arith, append_assoc, mul-le-mul_left, All}
use Rattle.std.proofs.lemmas.Nat.{mul-lt}
use Rattle.std.proofs.Math.Nat.{mul_comm}
use Rattle.std.proofs.lemmas.List.Elements.{All-head, All-tail}
use Rattle.std.proofs.lemmas.Bool.{cases_lt}
use Rattle.std.proofs.lemmas.List.{append-nil, length_push, length-map, map-append, get_or_append_left, get_or_push, get_or_at, set_at}
use Rattle.mm_pack.specs.Cells.{product, IsPlace, cell_at, AreAlike}
use Rattle.mm_pack.specs.Tables.{slots_at, slot_of, full_shape, IsInOrder}
use Rattle.mm_pack.specs.Rounds.{IsRoundOf}
use Rattle.mm_pack.proofs.Places.{product-append, join, split, IsSplit, one, IsOne, length_place, slots_at-append}
use Rattle.mm_pack.proofs.Rounds.{turned_cell, one_slot}

-- The axes in front are done, with these kept lengths and slots; the others stand before them.
pub record ArePacked (shape front back done : List ℕ) (slots : List (List ℕ)) (full now : List ℕ) : Type 0 where
  pub whole : shape ≡ front ++ back
  pub lengths : full_shape slots ≡ front
  pub axes : length done ≡ length front
  pub count : product (back ++ done) ≡ length now
  pub small : length now ≤ length full
  pub some : 0 < length now
  pub low : (ps : List ℕ) → IsPlace front ps → IsPlace done (slots_at slots ps)
  pub cells : (ps qs : List ℕ) → IsPlace front ps → IsPlace back qs → cell_at (back ++ done) now (qs ++ slots_at slots ps) ≡ cell_at shape full (ps ++ qs)
  pub onto : (ss : List ℕ) → IsPlace done ss → (ps : List ℕ) × IsPlace front ps × (slots_at slots ps ≡ ss)
  pub once : (axis i j : ℕ) → axis < length front → i < get_or shape axis 0 → j < get_or shape axis 0 → (slot_of slots axis i ≡ slot_of slots axis j) ↔ AreAlike shape full axis i j
  pub order : (axis : ℕ) → axis < length front → IsInOrder (get_or slots axis []) (get_or done axis 0)

-- a table whose axes have places has cells
some_cells : (shape : List ℕ) → All (λ n. 0 < n) shape → 0 < product shape
some_cells [] h = omega arith
some_cells (n ∷ ns) h = mul_pos n (product ns) (All-head (λ n. 0 < n) n ns h) (some_cells ns (All-tail (λ n. 0 < n) n ns h))
  where
    mul_pos : (a b : ℕ) → 0 < a → 0 < b → 0 < a * b
    mul_pos a b h k = grind (arith, mul-lt zero zero a b h k)

-- before the first round
pub start : (shape full : List ℕ) → All (λ n. 0 < n) shape → product shape ≡ length full → ArePacked shape [] shape [] [] full full
start shape full long count = record {
  whole = refl;
  lengths = refl;
  axes = refl;
  count = ap product (append-nil shape) ∙ count;
  small = omega arith;
  some = subst (λ n. 0 < n) count (some_cells shape long);
  low = λ ps h. slots_none ps h;
  cells = λ ps qs h k. none ps qs h;
  onto = λ ss h. ([], tt, no_slots ss h);
  once = λ axis i j h. absurd (omega arith);
  order = λ axis h. absurd (omega arith);
}
  where
    slots_none : (ps : List ℕ) → IsPlace [] ps → IsPlace [] (slots_at [] ps)
    slots_none ps h = tt

    no_slots : (ss : List ℕ) → IsPlace [] ss → [] ≡ ss
    no_slots [] h = refl
    no_slots (s ∷ ss) h = absurd h

    none : (ps qs : List ℕ) → IsPlace [] ps → cell_at (shape ++ []) full (qs ++ slots_at [] ps) ≡ cell_at shape full (ps ++ qs)
    none [] qs h = ap (λ s. cell_at s full (qs ++ [])) (append-nil shape) ∙ ap (λ q. cell_at shape full q) (append-nil qs)
    none (p ∷ ps) qs h = absurd h

module _ (shape front : List ℕ) (n : ℕ) (back done : List ℕ) (slots : List (List ℕ)) (full now : List ℕ) (kept : ℕ) (numbers turned : List ℕ)
    (p : ArePacked shape front (n ∷ back) done slots full now) (r : IsRoundOf now n (product (back ++ done)) kept numbers turned) where
  slots_long : length slots ≡ length front
  slots_long = sym (length-map slots length) ∙ ap length p.lengths

  front_long : (ps : List ℕ) → IsPlace front ps → length ps ≡ length slots
  front_long ps h = length_place front ps h ∙ sym slots_long

  -- the slots of a place with one more axis
  more_slots : (ps : List ℕ) (i : ℕ) → IsPlace front ps → slots_at (slots ++ numbers ∷ []) (ps ++ i ∷ []) ≡ slots_at slots ps ++ get_or numbers i 0 ∷ []
  more_slots ps i h = slots_at-append slots (numbers ∷ []) ps (i ∷ []) (front_long ps h)

  slot_low : (i : ℕ) → i < n → get_or numbers i 0 < kept
  slot_low i h = r.order.low i (rw r.places h)

  -- a cell after the round, by the cells before it
  cell_more : (ps : List ℕ) (i : ℕ) (qs : List ℕ) → IsPlace front ps → i < n → IsPlace back qs
      → cell_at (back ++ (done ++ kept ∷ [])) turned (qs ++ (slots_at slots ps ++ get_or numbers i 0 ∷ [])) ≡ cell_at shape full (ps ++ i ∷ qs)
  cell_more ps i qs h low k =
      let place : IsPlace (back ++ done) (qs ++ slots_at slots ps) = join back qs done (slots_at slots ps) k (p.low ps h) in
      let one_axis : cell_at ((back ++ done) ++ kept ∷ []) turned ((qs ++ slots_at slots ps) ++ get_or numbers i 0 ∷ []) ≡ cell_at (n ∷ (back ++ done)) now (i ∷ (qs ++ slots_at slots ps))
      = turned_cell (back ++ done) now numbers turned n kept i (qs ++ slots_at slots ps) r low place in
      ap (λ s. cell_at s turned (qs ++ (slots_at slots ps ++ get_or numbers i 0 ∷ []))) (sym (append_assoc back done (kept ∷ [])))
      ∙ ap (λ q. cell_at ((back ++ done) ++ kept ∷ []) turned q) (sym (append_assoc qs (slots_at slots ps) (get_or numbers i 0 ∷ [])))
      ∙ one_axis ∙ p.cells ps (i ∷ qs) h (low, k)

  -- along the axis of the round, equal slots are alike slices
  alike : (i j : ℕ) → i < n → j < n → get_or numbers i 0 ≡ get_or numbers j 0 → AreAlike shape full (length front) i j
  alike i j h k same place here =
      let s : IsSplit front (n ∷ back) place = split front (n ∷ back) place (subst (λ x. IsPlace x place) p.whole here) in
      at_split s.front s.back s.whole s.first s.last
    where
      at_split : (ps qs : List ℕ) → place ≡ ps ++ qs → IsPlace front ps → IsPlace (n ∷ back) qs → cell_at shape full (set place (length front) i) ≡ cell_at shape full (set place (length front) j)
      at_split ps [] e first last = absurd last
      at_split ps (x ∷ qs) e first last =
          let put : (v : ℕ) → set place (length front) v ≡ ps ++ v ∷ qs = λ v. ap (λ q. set q (length front) v) e ∙ set_at ps x qs v (length front) (length_place front ps first) in
          ap (cell_at shape full) (put i) ∙ sym (cell_more ps i qs first h last.1)
          ∙ ap (λ v. cell_at (back ++ (done ++ kept ∷ [])) turned (qs ++ (slots_at slots ps ++ v ∷ []))) same
          ∙ cell_more ps j qs first k last.1 ∙ ap (cell_at shape full) (sym (put j))

  -- and the other way round
  alike_back : (i j : ℕ) → i < n → j < n → AreAlike shape full (length front) i j → get_or numbers i 0 ≡ get_or numbers j 0
  alike_back i j h k same = one_slot (back ++ done) now numbers turned n kept i j r h k (λ q here.
      let s : IsSplit back done q = split back done q here in
      let o : (ps : List ℕ) × IsPlace front ps × (slots_at slots ps ≡ s.back) = p.onto s.back s.last in
      let whole : q ≡ s.front ++ slots_at slots o.0 = s.whole ∙ ap (λ x. s.front ++ x) (sym o.2) in
      let before : (v : ℕ) → v < n → cell_at (n ∷ (back ++ done)) now (v ∷ q) ≡ cell_at shape full (o.0 ++ v ∷ s.front)
      = λ v low. ap (λ x. cell_at (n ∷ (back ++ done)) now (v ∷ x)) whole ∙ p.cells o.0 (v ∷ s.front) o.1 (low, s.first) in
      let place : IsPlace shape (o.0 ++ i ∷ s.front) = subst (λ x. IsPlace x (o.0 ++ i ∷ s.front)) (sym p.whole) (join front o.0 (n ∷ back) (i ∷ s.front) o.1 (h, s.first)) in
      let put : (v : ℕ) → set (o.0 ++ i ∷ s.front) (length front) v ≡ o.0 ++ v ∷ s.front = λ v. set_at o.0 i s.front v (length front) (length_place front o.0 o.1) in
      before i h ∙ ap (cell_at shape full) (sym (put i)) ∙ same (o.0 ++ i ∷ s.front) place ∙ ap (cell_at shape full) (put j) ∙ sym (before j k))

  axis_here : get_or shape (length front) 0 ≡ n
  axis_here = ap (λ s. get_or s (length front) 0) p.whole ∙ get_or_at front n back 0 (length front) refl

  slots_here : get_or (slots ++ numbers ∷ []) (length front) [] ≡ numbers
  slots_here = get_or_push slots numbers [] (length front) slots_long

  slots_before : (axis : ℕ) → axis < length front → get_or (slots ++ numbers ∷ []) axis [] ≡ get_or slots axis []
  slots_before axis h = get_or_append_left slots (numbers ∷ []) [] axis (omega (arith, slots_long))

  once_more : (axis i j : ℕ) → axis < length (front ++ n ∷ []) → i < get_or shape axis 0 → j < get_or shape axis 0
      → (slot_of (slots ++ numbers ∷ []) axis i ≡ slot_of (slots ++ numbers ∷ []) axis j) ↔ AreAlike shape full axis i j
  once_more axis i j h li lj = elim (cases_lt axis (length front)) [
    | inl before ↦ subst (λ xs. (get_or xs i 0 ≡ get_or xs j 0) ↔ AreAlike shape full axis i j) (sym (slots_before axis before)) (p.once axis i j before li lj)
    | inr past ↦ here axis (omega (arith, length_push front n)) li lj
  ]
    where
      here : (axis : ℕ) → length front ≡ axis → i < get_or shape axis 0 → j < get_or shape axis 0 → (slot_of (slots ++ numbers ∷ []) axis i ≡ slot_of (slots ++ numbers ∷ []) axis j) ↔ AreAlike shape full axis i j
      here axis is = subst (λ a. i < get_or shape a 0 → j < get_or shape a 0 → (slot_of (slots ++ numbers ∷ []) a i ≡ slot_of (slots ++ numbers ∷ []) a j) ↔ AreAlike shape full a i j) is (λ hi hj.
          let low : i < n = subst (λ x. i < x) axis_here hi in
          let low' : j < n = subst (λ x. j < x) axis_here hj in
          subst (λ xs. (get_or xs i 0 ≡ get_or xs j 0) ↔ AreAlike shape full (length front) i j) (sym slots_here) (alike i j low low', alike_back i j low low'))

  order_more : (axis : ℕ) → axis < length (front ++ n ∷ []) → IsInOrder (get_or (slots ++ numbers ∷ []) axis []) (get_or (done ++ kept ∷ []) axis 0)
  order_more axis h = elim (cases_lt axis (length front)) [
    | inl before ↦
        let inside : axis < length done = omega (arith, p.axes) in
        subst (λ c. IsInOrder (get_or (slots ++ numbers ∷ []) axis []) c) (sym (get_or_append_left done (kept ∷ []) 0 axis inside))
        (subst (λ xs. IsInOrder xs (get_or done axis 0)) (sym (slots_before axis before)) (p.order axis before))
    | inr past ↦ here axis (omega (arith, length_push front n))
  ]
    where
      here : (axis : ℕ) → length front ≡ axis → IsInOrder (get_or (slots ++ numbers ∷ []) axis []) (get_or (done ++ kept ∷ []) axis 0)
      here axis is = subst (λ a. IsInOrder (get_or (slots ++ numbers ∷ []) a []) (get_or (done ++ kept ∷ []) a 0)) is
          (subst (λ c. IsInOrder (get_or (slots ++ numbers ∷ []) (length front) []) c) (sym (get_or_push done kept 0 (length front) p.axes))
          (subst (λ xs. IsInOrder xs kept) (sym slots_here) r.order))

  onto_more : (ss : List ℕ) → IsPlace (done ++ kept ∷ []) ss → (ps : List ℕ) × IsPlace (front ++ n ∷ []) ps × (slots_at (slots ++ numbers ∷ []) ps ≡ ss)
  onto_more ss h =
      let s : IsSplit done (kept ∷ []) ss = split done (kept ∷ []) ss h in
      let l : IsOne kept s.back = one kept s.back s.last in
      let o : (ps : List ℕ) × IsPlace front ps × (slots_at slots ps ≡ s.front) = p.onto s.front s.first in
      let u : (j : ℕ) × (j < length numbers) × (get_or numbers j 0 ≡ l.at) = r.order.used l.at l.low in
      let inside : u.0 < n = subst (λ x. u.0 < x) r.places u.1 in (
        o.0 ++ u.0 ∷ [],
        join front o.0 (n ∷ []) (u.0 ∷ []) o.1 (inside, tt),
        more_slots o.0 u.0 o.1 ∙ ap (λ x. x ++ get_or numbers u.0 0 ∷ []) o.2 ∙ ap (λ x. s.front ++ x ∷ []) u.2 ∙ ap (λ x. s.front ++ x) (sym l.whole) ∙ sym s.whole,
      )

  low_more : (ps : List ℕ) → IsPlace (front ++ n ∷ []) ps → IsPlace (done ++ kept ∷ []) (slots_at (slots ++ numbers ∷ []) ps)
  low_more ps h =
      let s : IsSplit front (n ∷ []) ps = split front (n ∷ []) ps h in
      let l : IsOne n s.back = one n s.back s.last in
      let whole : ps ≡ s.front ++ l.at ∷ [] = s.whole ∙ ap (λ x. s.front ++ x) l.whole in
      subst (λ x. IsPlace (done ++ kept ∷ []) x) (sym (ap (slots_at (slots ++ numbers ∷ [])) whole ∙ more_slots s.front l.at s.first))
      (join done (slots_at slots s.front) (kept ∷ []) (get_or numbers l.at 0 ∷ []) (p.low s.front s.first) (slot_low l.at l.low, tt))

  cells_more : (ps qs : List ℕ) → IsPlace (front ++ n ∷ []) ps → IsPlace back qs
      → cell_at (back ++ (done ++ kept ∷ [])) turned (qs ++ slots_at (slots ++ numbers ∷ []) ps) ≡ cell_at shape full (ps ++ qs)
  cells_more ps qs h k =
      let s : IsSplit front (n ∷ []) ps = split front (n ∷ []) ps h in
      let l : IsOne n s.back = one n s.back s.last in
      let whole : ps ≡ s.front ++ l.at ∷ [] = s.whole ∙ ap (λ x. s.front ++ x) l.whole in
      ap (λ x. cell_at (back ++ (done ++ kept ∷ [])) turned (qs ++ x)) (ap (slots_at (slots ++ numbers ∷ [])) whole ∙ more_slots s.front l.at s.first)
      ∙ cell_more s.front l.at qs s.first l.low k
      ∙ ap (cell_at shape full) (sym (ap (λ x. x ++ qs) whole ∙ append_assoc s.front (l.at ∷ []) qs))

  count_more : product (back ++ (done ++ kept ∷ [])) ≡ length turned
  count_more =
      let e : product ((back ++ done) ++ kept ∷ []) ≡ product (back ++ done) * (kept * 1) = product-append (back ++ done) (kept ∷ []) in
      ap product (sym (append_assoc back done (kept ∷ []))) ∙ e ∙ simple (product (back ++ done)) kept ∙ sym r.count
    where
      simple : (a b : ℕ) → a * (b * 1) ≡ a * b
      simple a b = omega arith

  fits : n * product (back ++ done) ≡ length now
  fits = p.count

  some_round : (n w kept : ℕ) → 0 < n * w → (0 < n → 0 < kept) → 0 < w * kept
  some_round zero w kept h k = absurd (omega arith)
  some_round (suc n) zero kept h k = absurd (omega arith)
  some_round (suc n) (suc w) kept h k = let some : 0 < kept = k (omega arith) in grind (arith, mul-lt zero zero (suc w) kept (omega arith) some)

  some_more : 0 < length turned
  some_more = subst (λ x. 0 < x) (sym r.count) (some_round n (product (back ++ done)) kept (subst (λ x. 0 < x) (sym fits) p.some) (λ h. at_least (get_or numbers 0 0) (slot_low 0 h)))
    where
      at_least : (a : ℕ) → a < kept → 0 < kept
      at_least a h = omega arith

  small_more : length turned ≤ length full
  small_more =
      let e : product (back ++ done) * kept ≤ product (back ++ done) * n = mul-le-mul_left (product (back ++ done)) r.few in
      let f : product (back ++ done) * n ≡ n * product (back ++ done) = mul_comm (product (back ++ done)) n in
      omega (arith, p.small, r.count, fits)

  -- after one more round
  pub step : ArePacked shape (front ++ n ∷ []) back (done ++ kept ∷ []) (slots ++ numbers ∷ []) full turned
  step = record {
    whole = p.whole ∙ sym (append_assoc front (n ∷ []) back);
    lengths = map-append length slots (numbers ∷ []) ∙ ap (λ x. x ++ length numbers ∷ []) p.lengths ∙ ap (λ x. front ++ x ∷ []) r.places;
    axes = length_push done kept ∙ ap (λ x. x + 1) p.axes ∙ sym (length_push front n);
    count = count_more;
    small = small_more;
    some = some_more;
    low = low_more;
    cells = cells_more;
    onto = onto_more;
    once = once_more;
    order = order_more;
  }
