-- A round, from rows that are numbered and turned; and what it means at places.
use Rattle.std.proofs.Common.{◌≡◌, ℕ, ◌+◌, ◌*◌, ◌<◌, ◌≤◌, List, [], ◌∷◌, ◌++◌, length, map, drop, get_or, sym, ◌∙◌, ap, subst, arith, inl, inr, length-drop, length-append, Bor}
use Rattle.std.proofs.lemmas.Bool.{cases_lt}
use Rattle.std.proofs.lemmas.List.{length-map, get_or-map, get_or-append-add, get_or_append_left, get_or-take, get_or-drop, get_or_default, same_lists, length-take-le}
use Rattle.std.proofs.Math.Nat.{mul-le-mul_right, mul_comm}
use Rattle.std.proofs.lemmas.Nat.{mul-add-lt}
use Rattle.mm_pack.specs.Cells.{product, IsPlace, index_of, cell_at}
use Rattle.mm_pack.specs.Rounds.{row_at, AreNumbered, AreTurned, IsRoundOf}
use Rattle.mm_pack.proofs.Numbering.{one_number}
use Rattle.mm_pack.proofs.Places.{index_below, index-append, place_of}

-- an element of a row is a cell
pub row_cell : (cells : List ℕ) (width i c : ℕ) → c < width → get_or (row_at cells width i) c 0 ≡ get_or cells (i * width + c) 0
row_cell cells width i c h = get_or-take width (drop (i * width) cells) c 0 h ∙ get_or-drop (i * width) cells c 0

row_room : (i width count : ℕ) → i < count → i * width + width ≤ count * width
row_room i width count h = let up : i + 1 ≤ count = omega arith in omega (arith, mul-le-mul_right width up)

-- a row is as long as the width
pub row_long : (cells : List ℕ) (width i count : ℕ) → length cells ≡ count * width → i < count → length (row_at cells width i) ≡ width
row_long cells width i count long h =
    let room : i * width + width ≤ count * width = row_room i width count h in
    length-take-le width (drop (i * width) cells) (omega (arith, length-drop (i * width) cells))

-- two rows are one where all their cells are
pub same_rows : (cells : List ℕ) (width i j rows : ℕ) → length cells ≡ rows * width → i < rows → j < rows
    → ((c : ℕ) → c < width → get_or cells (i * width + c) 0 ≡ get_or cells (j * width + c) 0) → row_at cells width i ≡ row_at cells width j
same_rows cells width i j rows long h k same =
    same_lists (row_at cells width i) (row_at cells width j) (row_long cells width i rows long h ∙ sym (row_long cells width j rows long k)) (λ c d low.
    let inside : c < width = subst (λ n. c < n) (row_long cells width i rows long h) low in
    let other : c < length (row_at cells width j) = subst (λ n. c < n) (sym (row_long cells width j rows long k)) inside in
    get_or_default (row_at cells width i) c d 0 low ∙ row_cell cells width i c inside ∙ same c inside
    ∙ sym (row_cell cells width j c inside) ∙ get_or_default (row_at cells width j) c 0 d other)

pub round : (cells : List ℕ) (count width : ℕ) (rows : List (List ℕ)) (slots turned : List ℕ) → length cells ≡ count * width → length rows ≤ count
    → AreNumbered cells width count rows slots → AreTurned rows width turned → IsRoundOf cells count width (length rows) slots turned
round cells count width rows slots turned long few n t = record {
  places = n.places;
  few = few;
  order = n.order;
  count = t.count;
  same = λ i c h k. t.each c (get_or slots i 0) k (low i h) ∙ ap (λ r. get_or r c 0) (n.same i h) ∙ row_cell cells width i c k;
  once = λ i j h k same. one_number rows (get_or slots i 0) (get_or slots j 0) n.apart (low i h) (low j k) (n.same i h ∙ same_rows cells width i j count long h k same ∙ sym (n.same j k));
}
  where
    low : (i : ℕ) → i < count → get_or slots i 0 < length rows
    low i h = n.order.low i (rw n.places h)

-- a cell of the turned table
pub turned_cell : (rest cells slots turned : List ℕ) (rows kept i : ℕ) (q : List ℕ) → IsRoundOf cells rows (product rest) kept slots turned → i < rows → IsPlace rest q
    → cell_at (rest ++ kept ∷ []) turned (q ++ get_or slots i 0 ∷ []) ≡ cell_at (rows ∷ rest) cells (i ∷ q)
turned_cell rest cells slots turned rows kept i q r h p =
    let e : index_of (rest ++ kept ∷ []) (q ++ get_or slots i 0 ∷ []) ≡ index_of rest q * (kept * 1) + (get_or slots i 0 * 1 + 0) = index-append rest q (kept ∷ []) (get_or slots i 0 ∷ []) p in
    let f : index_of rest q * (kept * 1) + (get_or slots i 0 * 1 + 0) ≡ index_of rest q * kept + get_or slots i 0 = simple (index_of rest q) kept (get_or slots i 0) in
    ap (λ k. get_or turned k 0) (e ∙ f) ∙ r.same i (index_of rest q) h (index_below rest q p)
  where
    simple : (a b c : ℕ) → a * (b * 1) + (c * 1 + 0) ≡ a * b + c
    simple a b c = omega arith

-- rows with the same cells at all places have one number
pub one_slot : (rest cells slots turned : List ℕ) (rows kept i j : ℕ) → IsRoundOf cells rows (product rest) kept slots turned → i < rows → j < rows
    → ((q : List ℕ) → IsPlace rest q → cell_at (rows ∷ rest) cells (i ∷ q) ≡ cell_at (rows ∷ rest) cells (j ∷ q)) → get_or slots i 0 ≡ get_or slots j 0
one_slot rest cells slots turned rows kept i j r h k same = r.once i j h k (λ c low.
    let p : (q : List ℕ) × IsPlace rest q × (index_of rest q ≡ c) = place_of rest c low in
    ap (λ x. get_or cells (i * product rest + x) 0) (sym p.2) ∙ same p.0 p.1 ∙ ap (λ x. get_or cells (j * product rest + x) 0) p.2)

-- one more column
pub turn_more : (keys : List (Bor (List ℕ))) (column : ℕ) (cells new : List ℕ) → AreTurned (map (λ r. r.now) keys) column cells
    → new ≡ cells ++ map (λ (r : Bor (List ℕ)). get_or r.now column 0) keys → AreTurned (map (λ r. r.now) keys) (column + 1) new
turn_more keys column cells new t e = record {
  count = ap length e ∙ length-append cells (map at_column keys) ∙ sums (length cells) column (length keys) t.count (length-map keys at_column) (length-map keys (λ (r : Bor (List ℕ)). r.now));
  each = λ c k h low. elim (cases_lt c column) [
    | inl before ↦
        let inside : c * length (map (λ (r : Bor (List ℕ)). r.now) keys) + k < length cells = inside_of (length cells) c (length (map (λ (r : Bor (List ℕ)). r.now) keys)) k column t.count before low in
        ap (λ xs. get_or xs (c * length (map (λ (r : Bor (List ℕ)). r.now) keys) + k) 0) e
        ∙ get_or_append_left cells (map at_column keys) 0 (c * length (map (λ (r : Bor (List ℕ)). r.now) keys) + k) inside ∙ t.each c k before low
    | inr past ↦ last c k (omega arith) low
  ];
}
  where
    inside_of : (long c n k count : ℕ) → long ≡ count * n → c < count → k < n → c * n + k < long
    inside_of long c n k count e h low = let f : c * n + k < n * count = mul-add-lt c n k count h low in let g : n * count ≡ count * n = mul_comm n count in omega arith

    at_column : Bor (List ℕ) → ℕ
    at_column r = get_or r.now column 0

    sums : (a c n : ℕ) → a ≡ c * length (map (λ (r : Bor (List ℕ)). r.now) keys) → length (map at_column keys) ≡ n → length (map (λ (r : Bor (List ℕ)). r.now) keys) ≡ n
        → a + length (map at_column keys) ≡ (c + 1) * length (map (λ (r : Bor (List ℕ)). r.now) keys)
    sums a c n e f g = grind (arith, e, f, g)

    last : (c k : ℕ) → c ≡ column → k < length (map (λ (r : Bor (List ℕ)). r.now) keys) → get_or new (c * length (map (λ (r : Bor (List ℕ)). r.now) keys) + k) 0 ≡ get_or (get_or (map (λ (r : Bor (List ℕ)). r.now) keys) k []) c 0
    last c k is low =
        let none : Bor (List ℕ) = record { ref_ptr = (0, 0); now = [] } in
        let inside : k < length keys = subst (λ n. k < n) (length-map keys (λ (r : Bor (List ℕ)). r.now)) low in
        let from : c * length (map (λ (r : Bor (List ℕ)). r.now) keys) + k ≡ length cells + k = ap (λ x. x * length (map (λ (r : Bor (List ℕ)). r.now) keys) + k) is ∙ ap (λ x. x + k) (sym t.count) in
        ap (λ xs. get_or xs (c * length (map (λ (r : Bor (List ℕ)). r.now) keys) + k) 0) e ∙ ap (λ x. get_or (cells ++ map at_column keys) x 0) from
        ∙ get_or-append-add cells (map at_column keys) k 0 ∙ get_or-map at_column keys k none 0 inside
        ∙ ap (λ x. get_or (get_or keys k none).now x 0) (sym is) ∙ ap (λ r. get_or r c 0) (sym (get_or-map (λ (r : Bor (List ℕ)). r.now) keys k none [] inside))

-- no column yet
pub turn_none : (rows : List (List ℕ)) → AreTurned rows 0 []
turn_none rows = record { count = omega arith; each = λ c k h. absurd (omega arith) }
