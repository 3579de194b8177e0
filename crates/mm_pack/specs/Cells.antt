-- Tables of several axes. Own.
use Rattle.std.specs.Prelude.{◌≡◌, ℕ, ◌+◌, ◌*◌, ◌<◌, List, [], ◌∷◌, get_or, slice_set as set}

-- how many cells a table has, by the lengths of its axes
abbrev pub product : List ℕ → ℕ
product [] = 1
product (n ∷ ns) = n * product ns

-- a place: one number for each axis, below its length
abbrev pub IsPlace : List ℕ → List ℕ → Type 0
IsPlace [] [] = Unit {0}
IsPlace [] (p ∷ ps) = ⊥
IsPlace (n ∷ ns) [] = ⊥
IsPlace (n ∷ ns) (p ∷ ps) = (p < n) × IsPlace ns ps

-- where the cell of a place stands, the last axis running fastest
abbrev pub index_of : List ℕ → List ℕ → ℕ
index_of [] ps = 0
index_of (n ∷ ns) [] = 0
index_of (n ∷ ns) (p ∷ ps) = p * product ns + index_of ns ps

-- the cell of a place
abbrev pub cell_at : List ℕ → List ℕ → List ℕ → ℕ
cell_at shape cells place = get_or cells (index_of shape place) 0

-- The slices at i and at j along an axis are equal: wherever the other axes stand, the cells are.
abbrev pub AreAlike : List ℕ → List ℕ → ℕ → ℕ → ℕ → Type 0
AreAlike shape cells axis i j =
    (place : List ℕ) → IsPlace shape place
    → cell_at shape cells (set place axis i) ≡ cell_at shape cells (set place axis j)
