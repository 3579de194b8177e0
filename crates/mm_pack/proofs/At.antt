-- The walk along a place.
use Rattle.std.proofs.Common.{◌≡◌, ℕ, zero, suc, ◌+◌, ◌*◌, ◌^◌, ◌<◌, ◌≤◌, List, [], ◌∷◌, length, drop, get_or, sym, ◌∙◌, ap, subst, arith}
use Rattle.std.proofs.lemmas.List.{drop_more, drop_all, length-map, get_or-map}
use Rattle.mm_pack.specs.Cells.{product, IsPlace, index_of}
use Rattle.mm_pack.specs.Tables.{Table, slots_at, slot_of, full_shape, IsTable}
use Rattle.mm_pack.proofs.Places.{index_below, length_place}

-- the slots of a place are a place of the kept table
pub slots_place : (shape : List ℕ) (slots : List (List ℕ)) (place : List ℕ) → length slots ≡ length shape
    → ((axis q : ℕ) → axis < length shape → q < length (get_or slots axis []) → slot_of slots axis q < get_or shape axis 0)
    → IsPlace (full_shape slots) place → IsPlace shape (slots_at slots place)
slots_place [] [] [] e low h = tt
slots_place [] [] (q ∷ qs) e low h = absurd h
slots_place [] (xs ∷ xss) place e low h = cc
slots_place (n ∷ ns) [] place e low h = cc
slots_place (n ∷ ns) (xs ∷ xss) [] e low h = absurd h
slots_place (n ∷ ns) (xs ∷ xss) (q ∷ qs) e low h =
    (low 0 q (omega arith) h.0, slots_place ns xss qs (omega arith) (λ axis r k. low (suc axis) r (omega arith)) h.1)

module _ (t : Table) (p : IsTable t) (place : List ℕ) (here : IsPlace (full_shape t.slots) place) where
  pub total : ℕ
  total = index_of t.shape (slots_at t.slots place)

  pub long : length place ≡ length t.slots
  long = length_place (full_shape t.slots) place here ∙ length-map t.slots length

  pub inside : index_of t.shape (slots_at t.slots place) < length t.cells
  inside = subst (λ n. index_of t.shape (slots_at t.slots place) < n) p.count (index_below t.shape (slots_at t.slots place) (slots_place t.shape t.slots place p.axes p.low here))

  -- a number of the place is one of its axis
  low_at : (ns ps : List ℕ) (axis : ℕ) → IsPlace ns ps → axis < length ps → get_or ps axis 0 < get_or ns axis 0
  low_at [] [] axis h k = absurd (omega arith)
  low_at [] (q ∷ ps) axis h k = absurd h
  low_at (n ∷ ns) [] axis h k = absurd h
  low_at (n ∷ ns) (q ∷ ps) zero h k = h.0
  low_at (n ∷ ns) (q ∷ ps) (suc axis) h k = low_at ns ps axis h.1 (omega arith)

  pub place_low : (axis : ℕ) → axis < length place → get_or place axis 0 < length (get_or t.slots axis [])
  place_low axis h =
      let low : axis < length t.slots = subst (λ n. axis < n) long h in
      subst (λ n. get_or place axis 0 < n) (get_or-map length t.slots axis [] 0 low) (low_at (full_shape t.slots) place axis here h)

  positive : (a b : ℕ) → 0 < a * b → 0 < b
  positive a zero h = absurd (omega arith)
  positive a (suc b) h = omega arith

  positive_drop : (k : ℕ) (ns : List ℕ) → 0 < product ns → 0 < product (drop k ns)
  positive_drop zero ns h = h
  positive_drop (suc k) [] h = h
  positive_drop (suc k) (n ∷ ns) h = positive_drop k ns (positive n (product ns) h)

  some : 0 < product t.shape
  some = more_than (index_of t.shape (slots_at t.slots place)) (product t.shape) (index_below t.shape (slots_at t.slots place) (slots_place t.shape t.slots place p.axes p.low here))
    where
      more_than : (a b : ℕ) → a < b → 0 < b
      more_than a b h = omega arith

  -- what is left to add is the same after each axis
  pub walk_more : (axis index : ℕ) → axis < length place
      → index * product (drop axis t.shape) + index_of (drop axis t.shape) (slots_at (drop axis t.slots) (drop axis place)) ≡ index_of t.shape (slots_at t.slots place)
      → (index * get_or t.shape axis 0 + slot_of t.slots axis (get_or place axis 0)) * product (drop (axis + 1) t.shape)
      + index_of (drop (axis + 1) t.shape) (slots_at (drop (axis + 1) t.slots) (drop (axis + 1) place)) ≡ index_of t.shape (slots_at t.slots place)
  walk_more axis index h same =
      let low : axis < length t.slots = subst (λ n. axis < n) long h in
      let low' : axis < length t.shape = subst (λ n. axis < n) p.axes low in
      let e : drop axis t.shape ≡ get_or t.shape axis 0 ∷ drop (axis + 1) t.shape = drop_more t.shape axis 0 low' in
      let f : drop axis t.slots ≡ get_or t.slots axis [] ∷ drop (axis + 1) t.slots = drop_more t.slots axis [] low in
      let g : drop axis place ≡ get_or place axis 0 ∷ drop (axis + 1) place = drop_more place axis 0 h in
      one index (get_or t.shape axis 0) (drop (axis + 1) t.shape) (get_or t.slots axis []) (drop (axis + 1) t.slots) (get_or place axis 0) (drop (axis + 1) place)
      ∙ sym (ap (λ s. index * product s + index_of s (slots_at (drop axis t.slots) (drop axis place))) e
      ∙ ap (λ s. index * product (get_or t.shape axis 0 ∷ drop (axis + 1) t.shape) + index_of (get_or t.shape axis 0 ∷ drop (axis + 1) t.shape) (slots_at s (drop axis place))) f
      ∙ ap (λ s. index * product (get_or t.shape axis 0 ∷ drop (axis + 1) t.shape)
      + index_of (get_or t.shape axis 0 ∷ drop (axis + 1) t.shape) (slots_at (get_or t.slots axis [] ∷ drop (axis + 1) t.slots) s)) g)
      ∙ same
    where
      one : (index n : ℕ) (ns xs : List ℕ) (xss : List (List ℕ)) (q : ℕ) (qs : List ℕ)
          → (index * n + get_or xs q 0) * product ns + index_of ns (slots_at xss qs) ≡ index * (n * product ns) + (get_or xs q 0 * product ns + index_of ns (slots_at xss qs))
      one index n ns xs xss q qs = three index n (get_or xs q 0) (product ns) (index_of ns (slots_at xss qs))
        where
          three : (i n s w r : ℕ) → (i * n + s) * w + r ≡ i * (n * w) + (s * w + r)
          three i n s w r = grind arith

  -- no index on the way is larger than the last
  pub walk_low : (axis index : ℕ) → axis < length place
      → index * product (drop axis t.shape) + index_of (drop axis t.shape) (slots_at (drop axis t.slots) (drop axis place)) ≡ index_of t.shape (slots_at t.slots place)
      → index * get_or t.shape axis 0 + slot_of t.slots axis (get_or place axis 0) < 2 ^ 20
  walk_low axis index h same =
      below (index * get_or t.shape axis 0 + slot_of t.slots axis (get_or place axis 0)) (product (drop (axis + 1) t.shape))
      (index_of (drop (axis + 1) t.shape) (slots_at (drop (axis + 1) t.slots) (drop (axis + 1) place))) (index_of t.shape (slots_at t.slots place))
      (positive_drop (axis + 1) t.shape some) (walk_more axis index h same) (omega (arith, inside, p.small))
    where
      below : (a w r total : ℕ) → 0 < w → a * w + r ≡ total → total < 2 ^ 20 → a < 2 ^ 20
      below a zero r total h e k = absurd (omega arith)
      below a (suc w) r total h e k = omega (arith, e, k)

  pub walk_end : (axis index : ℕ) → length place ≤ axis
      → index * product (drop axis t.shape) + index_of (drop axis t.shape) (slots_at (drop axis t.slots) (drop axis place)) ≡ index_of t.shape (slots_at t.slots place)
      → index ≡ index_of t.shape (slots_at t.slots place)
  walk_end axis index h same =
      let past : length t.shape ≤ axis = omega (arith, long, p.axes) in
      sym (ap (λ s. index * product s + index_of s (slots_at (drop axis t.slots) (drop axis place))) (drop_all axis t.shape past) ∙ simple index) ∙ same
    where
      simple : (i : ℕ) → i * 1 + 0 ≡ i
      simple i = omega arith
