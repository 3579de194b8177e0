-- A look at the halves where a cell would stand says whether it may stand there.
use Rattle.std.proofs.Common.{◌≡◌, ◌≢◌, ℕ, ◌+◌, ◌*◌, ◌/◌, ◌<◌, ◌≤◌, ◌⊎◌, inl, inr, Bool, true, false, ◌&&◌, ◌||◌, ◌==◌, if◌then◌else◌, List, [], ◌∷◌, Some, None, refl, sym, ap, ap₂, ◌∙◌, arith, eqb, leb, ltb, ⊎_elim}
use Rattle.std.proofs.lemmas.Bool.{cases_Bool, false≢true, le-leb, lt-leb, ne_eqb, lt-ltb, le-ltb, eq-eqb}
use Rattle.std.proofs.lemmas.Bool.Decides.{leb_tells, eqb_tells}
use Rattle.mm_c.specs.declared.value.CCell.{CCell}
use Rattle.mm_c.specs.declared.value.CCell.TheVariants as cell
use Rattle.mm_c.specs.declared.value.CValue.{CValue}
use Rattle.mm_c.specs.declared.value.CValue.TheVariants.{Int, Unsigned, Long, Null, At}
use Rattle.mm_c.specs.Memory.{width_of, same_kind, Cell, is_apart, latest}
use Rattle.mm_c.proofs.Bools.{and_left, and_right, both}
use Rattle.mm_c_memory.specs.declared.memory.Half.{Half}
use Rattle.mm_c_memory.specs.declared.memory.Half.TheVariants as half
use Rattle.mm_c_memory.specs.Held.{half_at, is_free, cell_in, kind_in, value_in, is_clear, WereStored}

-- ---- what a half in which a cell begins tells of it

pub cell_kind : (k : CCell) (v : CValue) → kind_in (cell_in k v) ≡ Some k
cell_kind k (Int z) = refl
cell_kind k (Unsigned n) = refl
cell_kind k (Long z) = refl
cell_kind k Null = refl
cell_kind k (At b o) = refl

pub cell_value : (k : CCell) (v : CValue) → value_in (cell_in k v) ≡ Some v
cell_value k (Int z) = refl
cell_value k (Unsigned n) = refl
cell_value k (Long z) = refl
cell_value k Null = refl
cell_value k (At b o) = refl

-- halves in which the same cell begins
same_cell_kind : (k l : CCell) (v u : CValue) → cell_in k v ≡ cell_in l u → k ≡ l
same_cell_kind k l v u e = let q : Some k ≡ Some l = sym (cell_kind k v) ∙ ap kind_in e ∙ cell_kind l u in cc

same_cell_value : (k l : CCell) (v u : CValue) → cell_in k v ≡ cell_in l u → v ≡ u
same_cell_value k l v u e = let q : Some v ≡ Some u = sym (cell_value k v) ∙ ap value_in e ∙ cell_value l u in cc

pub not_empty : (k : CCell) (v : CValue) → cell_in k v ≡ half.Empty → ⊥
not_empty k v e = let q : Some k ≡ None = sym (cell_kind k v) ∙ ap kind_in e in cc

pub not_inside : (k : CCell) (v : CValue) → cell_in k v ≡ half.Inside → ⊥
not_inside k v e = let q : Some k ≡ None = sym (cell_kind k v) ∙ ap kind_in e in cc

-- a half in which a cell begins, by what it tells of it
pub cell_is : (h : Half) (k : CCell) → kind_in h ≡ Some k → (v : CValue) × (h ≡ cell_in k v)
cell_is half.Empty k e = cc
cell_is (half.Int l z) k e = (Int z, let q : l ≡ k = cc in ap (λ j. half.Int j z) q)
cell_is (half.Unsigned l n) k e = (Unsigned n, let q : l ≡ k = cc in ap (λ j. half.Unsigned j n) q)
cell_is (half.Long l z) k e = (Long z, let q : l ≡ k = cc in ap (λ j. half.Long j z) q)
cell_is (half.Null l) k e = (Null, let q : l ≡ k = cc in ap half.Null q)
cell_is (half.At l o b) k e = (At b o, let q : l ≡ k = cc in ap (λ j. half.At j o b) q)
cell_is half.Inside k e = cc

pub value_is : (h : Half) (v : CValue) → value_in h ≡ Some v → (k : CCell) × (h ≡ cell_in k v)
value_is half.Empty v e = cc
value_is (half.Int k z) v e = (k, let q : Int z ≡ v = cc in ap (cell_in k) q)
value_is (half.Unsigned k n) v e = (k, let q : Unsigned n ≡ v = cc in ap (cell_in k) q)
value_is (half.Long k z) v e = (k, let q : Long z ≡ v = cc in ap (cell_in k) q)
value_is (half.Null k) v e = (k, let q : Null ≡ v = cc in ap (cell_in k) q)
value_is (half.At k o b) v e = (k, let q : At b o ≡ v = cc in ap (cell_in k) q)
value_is half.Inside v e = cc

-- ---- where the bytes of a half are, by a cell

data Where (i : ℕ) (x : Cell) : Type 0 where
  begins : x.offset ≡ 2 * i → ((xs : List Cell) → half_at i (x ∷ xs) ≡ cell_in x.kind x.value) → Where i x
  within : x.offset < 2 * i → 2 * i < x.offset + width_of x.kind → ((xs : List Cell) → half_at i (x ∷ xs) ≡ half.Inside) → Where i x
  apart : (2 * i < x.offset) ⊎ (x.offset + width_of x.kind ≤ 2 * i) → ((xs : List Cell) → half_at i (x ∷ xs) ≡ half_at i xs) → Where i x

if_true : {A : Type 0} (b : Bool) (y z : A) → b ≡ true → (if b then y else z) ≡ y
if_true true y z e = refl
if_true false y z e = cc

if_false : {A : Type 0} (b : Bool) (y z : A) → b ≡ false → (if b then y else z) ≡ z
if_false true y z e = cc
if_false false y z e = refl

and_false : (a b : Bool) → (a ≡ false) ⊎ (b ≡ false) → (a && b) ≡ false
and_false true b (inl e) = cc
and_false true b (inr e) = e
and_false false b h = refl

or_true : (a b : Bool) → (a ≡ true) ⊎ (b ≡ true) → (a || b) ≡ true
or_true true b h = refl
or_true false b (inl e) = cc
or_true false b (inr e) = e

or_false : (a b : Bool) → a ≡ false → b ≡ false → (a || b) ≡ false
or_false a b e f = rw (e, f) refl

where_apart : (i : ℕ) (x : Cell) → x.offset ≢ 2 * i → (2 * i < x.offset) ⊎ (x.offset + width_of x.kind ≤ 2 * i) → Where i x
where_apart i x n far =
    apart far (λ xs.
    if_false (eqb x.offset (2 * i)) _ _ (ne_eqb x.offset (2 * i) n)
    ∙ if_false (ltb x.offset (2 * i) && ltb (2 * i) (x.offset + width_of x.kind)) _ _
    (and_false (ltb x.offset (2 * i)) (ltb (2 * i) (x.offset + width_of x.kind))
    (⊎_elim (λ h. inl (le-ltb x.offset (2 * i) (omega arith))) (λ h. inr (le-ltb (2 * i) (x.offset + width_of x.kind) h)) far)))

where_past : (i : ℕ) (x : Cell) → x.offset < 2 * i → Where i x
where_past i x lt =
    let n : x.offset ≢ 2 * i = λ e. absurd (let b : ⊥ = omega (arith, e, lt) in b) in
    ⊎_elim
    (λ far. where_apart i x n (inr far.1))
    (λ near. within lt near.1 (λ xs.
    if_false (eqb x.offset (2 * i)) _ _ (ne_eqb x.offset (2 * i) n)
    ∙ if_true (ltb x.offset (2 * i) && ltb (2 * i) (x.offset + width_of x.kind)) _ _ (both _ _ (lt-ltb x.offset (2 * i) lt) (lt-ltb (2 * i) (x.offset + width_of x.kind) near.1))))
    (leb_tells (x.offset + width_of x.kind) (2 * i))

look : (i : ℕ) (x : Cell) → Where i x
look i x =
    ⊎_elim
    (λ here. begins here.1 (λ xs. if_true (eqb x.offset (2 * i)) _ _ here.0))
    (λ there. ⊎_elim
    (λ le. where_past i x (let n = there.1 in let l = le.1 in omega (arith, n, l)))
    (λ gt. where_apart i x there.1 (inl gt.1))
    (leb_tells x.offset (2 * i)))
    (eqb_tells x.offset (2 * i))

-- ---- whether a cell leaves room

-- the test of one cell
abbrev leaves_room : CCell → ℕ → Cell → Bool
leaves_room kind offset x = is_apart offset (width_of kind) x || ((x.offset == offset) && same_kind x.kind kind)

some_bytes : (k : CCell) → 0 < width_of k
some_bytes cell.Int = omega arith
some_bytes cell.Unsigned = omega arith
some_bytes cell.Short = omega arith
some_bytes cell.Pointer = omega arith

pub even_width : (k : CCell) → width_of k ≡ 2 * (width_of k / 2)
even_width cell.Int = refl
even_width cell.Unsigned = refl
even_width cell.Short = refl
even_width cell.Pointer = refl

pub same_is : (k l : CCell) → same_kind k l ≡ true → k ≡ l
same_is cell.Int cell.Int e = refl
same_is cell.Unsigned cell.Unsigned e = refl
same_is cell.Short cell.Short e = refl
same_is cell.Pointer cell.Pointer e = refl
same_is k l e = absurd (false≢true e)

room_far : (kind : CCell) (offset : ℕ) (x : Cell) → (offset + width_of kind ≤ x.offset) ⊎ (x.offset + width_of x.kind ≤ offset) → leaves_room kind offset x ≡ true
room_far kind offset x h =
    or_true (is_apart offset (width_of kind) x) _ (inl (or_true (leb (offset + width_of kind) x.offset) (leb (x.offset + width_of x.kind) offset)
    (⊎_elim (λ a. inl (le-leb _ _ a)) (λ a. inr (le-leb _ _ a)) h)))

near_false : (kind : CCell) (offset : ℕ) (x : Cell) → x.offset < offset + width_of kind → offset < x.offset + width_of x.kind → is_apart offset (width_of kind) x ≡ false
near_false kind offset x a b = or_false (leb (offset + width_of kind) x.offset) (leb (x.offset + width_of x.kind) offset) (lt-leb _ _ a) (lt-leb _ _ b)

room_near : (kind : CCell) (offset : ℕ) (x : Cell) → x.offset < offset + width_of kind → offset < x.offset + width_of x.kind → x.offset ≢ offset → leaves_room kind offset x ≡ false
room_near kind offset x a b n =
    or_false (is_apart offset (width_of kind) x) ((x.offset == offset) && same_kind x.kind kind) (near_false kind offset x a b) (and_false (eqb x.offset offset) (same_kind x.kind kind) (inl (ne_eqb x.offset offset n)))

room_here : (kind : CCell) (offset : ℕ) (x : Cell) → x.offset ≡ offset → leaves_room kind offset x ≡ same_kind x.kind kind
room_here kind offset x e =
    let a : x.offset < offset + width_of kind = let w = some_bytes kind in omega (arith, e, w) in
    let b : offset < x.offset + width_of x.kind = let w = some_bytes x.kind in omega (arith, e, w) in
    ap (λ q. q || ((x.offset == offset) && same_kind x.kind kind)) (near_false kind offset x a b)
    ∙ ap (λ q. q && same_kind x.kind kind) (eq-eqb x.offset offset e)

-- the converse, for a cell at another place
far_room : (kind : CCell) (offset : ℕ) (x : Cell) → leaves_room kind offset x ≡ true → x.offset ≢ offset → (offset + width_of kind ≤ x.offset) ⊎ (x.offset + width_of x.kind ≤ offset)
far_room kind offset x h n =
    ⊎_elim (λ a. inl a.1)
    (λ a. ⊎_elim (λ b. inr b.1) (λ b. absurd (false≢true (sym (room_near kind offset x a.1 b.1 n) ∙ h))) (leb_tells (x.offset + width_of x.kind) offset))
    (leb_tells (offset + width_of kind) x.offset)

-- ---- all cells

half_kind : half.Empty ≡ half.Inside → ⊥
half_kind e = cc

-- The cell that a half begins is apart from a cell that had room, or at its place.
clear_of : (kind : CCell) (offset i : ℕ) (xs : List Cell) (k : CCell) (v : CValue) → is_clear kind offset xs ≡ true → half_at i xs ≡ cell_in k v → 2 * i ≢ offset → (offset + width_of kind ≤ 2 * i) ⊎ (2 * i + width_of k ≤ offset)
clear_of kind offset i [] k v h e n = absurd (not_empty k v (sym e))
clear_of kind offset i (x ∷ xs) k v h e n =
    elim (look i x) [
      | begins at is ↦
          let kind_is : x.kind ≡ k = same_cell_kind x.kind k x.value v (sym (is xs) ∙ e) in
          let far = far_room kind offset x (and_left (leaves_room kind offset x) _ h) (λ q. n (sym at ∙ q)) in
          ⊎_elim (λ a. inl (let b : offset + width_of kind ≤ x.offset = a in omega (arith, at, b))) (λ a. inr (let b : x.offset + width_of x.kind ≤ offset = a in let c = ap width_of kind_is in omega (arith, at, b, c))) far
      | within past near is ↦ absurd (not_inside k v (sym e ∙ is xs))
      | apart far is ↦ clear_of kind offset i xs k v (and_right (leaves_room kind offset x) _ h) (sym (is xs) ∙ e) n
    ]

-- where a cell begins, one of its kind may stand, and no other
pub value_room : (kind : CCell) (i : ℕ) (xs : List Cell) (k : CCell) (v : CValue) → WereStored xs → half_at i xs ≡ cell_in k v → is_clear kind (2 * i) xs ≡ same_kind k kind
value_room kind i [] k v st e = absurd (not_empty k v (sym e))
value_room kind i (x ∷ xs) k v st e =
    elim (look i x) [
      | begins at is ↦ begun at (is xs)
      | within past near is ↦ absurd (not_inside k v (sym e ∙ is xs))
      | apart far is ↦ passed far (value_room kind i xs k v st.1.2 (sym (is xs) ∙ e)) (sym (is xs) ∙ e)
    ]
  where
    begun : x.offset ≡ 2 * i → half_at i (x ∷ xs) ≡ cell_in x.kind x.value → is_clear kind (2 * i) (x ∷ xs) ≡ same_kind k kind
    begun at is =
        let kind_is : x.kind ≡ k = same_cell_kind x.kind k x.value v (sym is ∙ e) in
        ap (λ q. q && is_clear kind (2 * i) xs) (room_here kind (2 * i) x at ∙ ap (λ q. same_kind q kind) kind_is)
        ∙ ⊎_elim
        (λ s. let same : k ≡ kind = same_is k kind s in ap (λ q. same_kind k kind && q) (ap₂ (λ q o. is_clear q o xs) (sym same ∙ sym kind_is) (sym at) ∙ st.1.1) ∙ rw s refl)
        (λ s. rw s refl)
        (cases_Bool (same_kind k kind))

    passed : (2 * i < x.offset) ⊎ (x.offset + width_of x.kind ≤ 2 * i) → is_clear kind (2 * i) xs ≡ same_kind k kind → half_at i xs ≡ cell_in k v → is_clear kind (2 * i) (x ∷ xs) ≡ same_kind k kind
    passed far rest e =
        ⊎_elim
        (λ s. let same : k ≡ kind = same_is k kind s in
        let n : 2 * i ≢ x.offset = λ q. ⊎_elim (λ a. let b : ⊥ = omega (arith, q, a) in b) (λ a. let b : ⊥ = let w = some_bytes x.kind in omega (arith, q, a, w) in b) far in
        let away = clear_of x.kind x.offset i xs k v st.1.1 e n in
        let room : leaves_room kind (2 * i) x ≡ true = room_far kind (2 * i) x (⊎_elim (λ a. inr a) (λ a. inl (let w = ap width_of same in omega (arith, w, a))) away) in
        ap (λ q. q && is_clear kind (2 * i) xs) room ∙ rest)
        (λ s. ap (λ q. leaves_room kind (2 * i) x && q) (rest ∙ s) ∙ and_false (leaves_room kind (2 * i) x) false (inr refl) ∙ sym s)
        (cases_Bool (same_kind k kind))

-- where a cell that began before reaches, none may stand
pub inside_room : (kind : CCell) (i : ℕ) (xs : List Cell) → half_at i xs ≡ half.Inside → is_clear kind (2 * i) xs ≡ false
inside_room kind i [] e = cc
inside_room kind i (x ∷ xs) e =
    elim (look i x) [
      | begins at is ↦ absurd (not_inside x.kind x.value (sym (is xs) ∙ e))
      | within past near is ↦
          let a : x.offset < 2 * i + width_of kind = let w = some_bytes kind in omega (arith, past, w) in
          and_false (leaves_room kind (2 * i) x) _ (inl (room_near kind (2 * i) x a near (λ q. let b : ⊥ = omega (arith, q, past) in b)))
      | apart far is ↦ and_false (leaves_room kind (2 * i) x) _ (inr (inside_room kind i xs (sym (is xs) ∙ e)))
    ]

pub free_is : (h : Half) → is_free h ≡ true → h ≡ half.Empty
free_is half.Empty e = refl
free_is (half.Int k z) e = cc
free_is (half.Unsigned k n) e = cc
free_is (half.Long k z) e = cc
free_is (half.Null k) e = cc
free_is (half.At k o b) e = cc
free_is half.Inside e = cc

-- where nothing was stored, any cell may stand
pub empty_room : (kind : CCell) (i : ℕ) (xs : List Cell) → WereStored xs → ((j : ℕ) → i ≤ j → j < i + width_of kind / 2 → half_at j xs ≡ half.Empty) → is_clear kind (2 * i) xs ≡ true
empty_room kind i [] st all = refl
empty_room kind i (x ∷ xs) st all =
    both (leaves_room kind (2 * i) x) _ (room_far kind (2 * i) x away) (empty_room kind i xs st.1.2 (λ j a b. beyond j a b))
  where
    beyond : (j : ℕ) → i ≤ j → j < i + width_of kind / 2 → half_at j xs ≡ half.Empty
    beyond j a b =
        elim (look j x) [
          | begins at is ↦ absurd (not_empty x.kind x.value (sym (is xs) ∙ all j a b))
          | within past near is ↦ (let q = is xs in let r = all j a b in cc)
          | apart far is ↦ sym (is xs) ∙ all j a b
        ]

    first : (2 * i < x.offset) ⊎ (x.offset + width_of x.kind ≤ 2 * i)
    first =
        let w = some_bytes kind in
        let v = even_width kind in
        let r = all i (omega arith) (omega (arith, w, v)) in
        elim (look i x) [
          | begins at is ↦ absurd (not_empty x.kind x.value (sym (is xs) ∙ r))
          | within past near is ↦ (let q = is xs in cc)
          | apart far is ↦ far
        ]

    away : (2 * i + width_of kind ≤ x.offset) ⊎ (x.offset + width_of x.kind ≤ 2 * i)
    away =
        ⊎_elim
        (λ a. ⊎_elim
        (λ b. inl b.1)
        (λ b.
        let even = st.1.0 in
        let v = even_width kind in
        let bb = b.1 in
        let r = all st.0 (omega (arith, a, even)) (omega (arith, even, v, bb)) in
        absurd (elim (look st.0 x) [
          | begins at is ↦ not_empty x.kind x.value (sym (is xs) ∙ r)
          | within past near is ↦ (let q = is xs in cc)
          | apart far is ↦ ⊎_elim (λ c. let d : ⊥ = omega (arith, c, even) in d) (λ c. let d : ⊥ = let w = some_bytes x.kind in omega (arith, c, even, w) in d) far
        ]))
        (leb_tells (2 * i + width_of kind) x.offset))
        (λ a. inr a)
        first

-- where something was stored behind the first half, none may stand
pub taken_room : (kind : CCell) (i j : ℕ) (xs : List Cell) → half_at i xs ≡ half.Empty → i ≤ j → j < i + width_of kind / 2 → is_free (half_at j xs) ≡ false → is_clear kind (2 * i) xs ≡ false
taken_room kind i j [] e le lt f = cc
taken_room kind i j (x ∷ xs) e le lt f =
    let v = even_width kind in
    let w = some_bytes x.kind in
    elim (look i x) [
      | begins at is ↦ absurd (not_empty x.kind x.value (sym (is xs) ∙ e))
      | within past near is ↦ (let q = is xs in cc)
      | apart far same ↦
          (let n : x.offset ≢ 2 * i = λ q. ⊎_elim (λ a. let b : ⊥ = omega (arith, q, a) in b) (λ a. let b : ⊥ = omega (arith, q, a, w) in b) far in
          elim (look j x) [
            | begins at is ↦
                and_false (leaves_room kind (2 * i) x) _ (inl (room_near kind (2 * i) x (omega (arith, at, lt, v)) (omega (arith, at, le, w)) n))
            | within past near is ↦
                and_false (leaves_room kind (2 * i) x) _ (inl (room_near kind (2 * i) x (omega (arith, past, lt, v)) (omega (arith, near, le)) n))
            | apart gone is ↦ and_false (leaves_room kind (2 * i) x) _ (inr (taken_room kind i j xs (sym (same xs) ∙ e) le lt (ap is_free (sym (is xs)) ∙ f)))
          ])
    ]

-- ---- what is loaded

pub latest_value : (i : ℕ) (xs : List Cell) (k : CCell) (v : CValue) → half_at i xs ≡ cell_in k v → latest (2 * i) xs ≡ Some v
latest_value i [] k v e = absurd (not_empty k v (sym e))
latest_value i (x ∷ xs) k v e =
    elim (look i x) [
      | begins at is ↦ if_true (eqb x.offset (2 * i)) _ _ (eq-eqb x.offset (2 * i) at) ∙ ap Some (same_cell_value x.kind k x.value v (sym (is xs) ∙ e))
      | within past near is ↦ absurd (not_inside k v (sym e ∙ is xs))
      | apart far is ↦ if_false (eqb x.offset (2 * i)) _ _ (ne_eqb x.offset (2 * i) (not_here far)) ∙ latest_value i xs k v (sym (is xs) ∙ e)
    ]
  where
    not_here : (2 * i < x.offset) ⊎ (x.offset + width_of x.kind ≤ 2 * i) → x.offset ≢ 2 * i
    not_here far q = ⊎_elim (λ a. let b : ⊥ = omega (arith, q, a) in b) (λ a. let b : ⊥ = let w = some_bytes x.kind in omega (arith, q, a, w) in b) far

pub latest_none : (i : ℕ) (xs : List Cell) → half_at i xs ≡ half.Empty → latest (2 * i) xs ≡ None
latest_none i [] e = refl
latest_none i (x ∷ xs) e =
    elim (look i x) [
      | begins at is ↦ absurd (not_empty x.kind x.value (sym (is xs) ∙ e))
      | within past near is ↦ (let q = is xs in cc)
      | apart far is ↦ if_false (eqb x.offset (2 * i)) _ _ (ne_eqb x.offset (2 * i) (not_here far)) ∙ latest_none i xs (sym (is xs) ∙ e)
    ]
  where
    not_here : (2 * i < x.offset) ⊎ (x.offset + width_of x.kind ≤ 2 * i) → x.offset ≢ 2 * i
    not_here far q = ⊎_elim (λ a. let b : ⊥ = omega (arith, q, a) in b) (λ a. let b : ⊥ = let w = some_bytes x.kind in omega (arith, q, a, w) in b) far

-- ---- what is stored

pub stored_first : (i : ℕ) (x : Cell) (xs : List Cell) → x.offset ≡ 2 * i → half_at i (x ∷ xs) ≡ cell_in x.kind x.value
stored_first i x xs at = if_true (eqb x.offset (2 * i)) _ _ (eq-eqb x.offset (2 * i) at)

pub stored_within : (i : ℕ) (x : Cell) (xs : List Cell) → x.offset < 2 * i → 2 * i < x.offset + width_of x.kind → half_at i (x ∷ xs) ≡ half.Inside
stored_within i x xs past near =
    elim (look i x) [
      | begins at is ↦ absurd (let b : ⊥ = omega (arith, at, past) in b)
      | within p q is ↦ is xs
      | apart far is ↦ absurd (⊎_elim (λ a. let b : ⊥ = omega (arith, past, a) in b) (λ a. let b : ⊥ = omega (arith, near, a) in b) far)
    ]

pub stored_apart : (i : ℕ) (x : Cell) (xs : List Cell) → (2 * i < x.offset) ⊎ (x.offset + width_of x.kind ≤ 2 * i) → half_at i (x ∷ xs) ≡ half_at i xs
stored_apart i x xs far =
    elim (look i x) [
      | begins at is ↦ absurd (⊎_elim (λ a. let b : ⊥ = omega (arith, at, a) in b) (λ a. let b : ⊥ = let w = some_bytes x.kind in omega (arith, at, a, w) in b) far)
      | within p q is ↦ absurd (⊎_elim (λ a. let b : ⊥ = omega (arith, p, a) in b) (λ a. let b : ⊥ = omega (arith, q, a) in b) far)
      | apart gone is ↦ is xs
    ]
