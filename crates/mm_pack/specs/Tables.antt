-- Tables of which equal slices are kept once. Own.
use Rattle.std.specs.Prelude.{◌≡◌, ◌↔◌, ℕ, ◌<◌, ◌≤◌, ◌^◌, List, [], ◌∷◌, map, length, get_or}
use Rattle.mm_pack.specs.Cells.{product, IsPlace, cell_at, AreAlike}

-- What is kept: the number of kept slices of each axis, their cells, and for each axis the kept
-- slice of each place.
pub record Table : Type 0 where
  pub shape : List ℕ
  pub cells : List ℕ
  pub slots : List (List ℕ)

-- the kept slice of a place along an axis
abbrev pub slot_of : List (List ℕ) → ℕ → ℕ → ℕ
slot_of slots axis place = get_or (get_or slots axis []) place 0

-- where the cell of a place of the full table is kept: the kept slice of each of its numbers
abbrev pub slots_at : List (List ℕ) → List ℕ → List ℕ
slots_at [] ps = []
slots_at (xs ∷ xss) [] = []
slots_at (xs ∷ xss) (p ∷ ps) = get_or xs p 0 ∷ slots_at xss ps

-- the lengths of the full table's axes
abbrev pub full_shape : List (List ℕ) → List ℕ
full_shape slots = map length slots

-- the cell that stands for a place of the full table
abbrev pub kept_at : Table → List ℕ → ℕ
kept_at t place = cell_at t.shape t.cells (slots_at t.slots place)

-- every place has its cell
abbrev pub HasCells : List ℕ → List ℕ → Table → Type 0
HasCells shape cells t =
    (place : List ℕ) → IsPlace shape place → kept_at t place ≡ cell_at shape cells place

-- along each axis two places have one kept slice exactly where their slices of the full table are
-- equal
abbrev pub KeepsOnce : List ℕ → List ℕ → Table → Type 0
KeepsOnce shape cells t = (axis i j : ℕ) → axis < length shape → i < get_or shape axis 0 → j < get_or shape axis 0
    → (slot_of t.slots axis i ≡ slot_of t.slots axis j) ↔ AreAlike shape cells axis i j

-- no two kept slices along one axis are equal
abbrev pub AreApart : Table → Type 0
AreApart t = (axis a b : ℕ) → axis < length t.shape → a < b → b < get_or t.shape axis 0
    → AreAlike t.shape t.cells axis a b → ⊥

-- Numbers that are given out in order: each is below their count, whatever is below a number
-- stands before it, and each number below the count is given out.
pub record IsInOrder (numbers : List ℕ) (count : ℕ) : Type 0 where
  pub low : (i : ℕ) → i < length numbers → get_or numbers i 0 < count
  pub earlier : (i n : ℕ) → i < length numbers → n < get_or numbers i 0
      → (j : ℕ) × (j < i) × (get_or numbers j 0 ≡ n)
  pub used : (n : ℕ) → n < count → (j : ℕ) × (j < length numbers) × (get_or numbers j 0 ≡ n)

-- the kept slices of each axis are numbered in the order of their first places
abbrev pub AreInOrder : Table → Type 0
AreInOrder t = (axis : ℕ) → axis < length t.shape
    → IsInOrder (get_or t.slots axis []) (get_or t.shape axis 0)

-- what each table keeps: each place has a kept slice along its axis, and there is a kept cell for
-- each place of these
pub record IsTable (t : Table) : Type 0 where
  pub axes : length t.slots ≡ length t.shape
  pub count : product t.shape ≡ length t.cells
  pub small : length t.cells ≤ 2 ^ 20
  pub low : (axis place : ℕ) → axis < length t.shape → place < length (get_or t.slots axis [])
      → slot_of t.slots axis place < get_or t.shape axis 0
