-- One axis at a time: the rows of a table are the slices along its first axis.
use Rattle.std.specs.Prelude.{◌≡◌, ℕ, ◌+◌, ◌*◌, ◌<◌, ◌≤◌, List, [], take, drop, length, get_or}
use Rattle.mm_pack.specs.Tables.{IsInOrder}

-- the i-th row of this width
abbrev pub row_at : List ℕ → ℕ → ℕ → List ℕ
row_at cells width i = take width (drop (i * width) cells)

-- the first rows are numbered: equal ones have one number, and each number has its row in the list
pub record AreNumbered (cells : List ℕ) (width count : ℕ) (rows : List (List ℕ)) (slots : List ℕ)
    : Type 0 where
  pub places : length slots ≡ count
  pub order : IsInOrder slots (length rows)
  pub same : (i : ℕ) → i < count → get_or rows (get_or slots i 0) [] ≡ row_at cells width i
  pub apart : (a b : ℕ) → a < b → b < length rows → get_or rows a [] ≡ get_or rows b [] → ⊥

-- cells are those of the rows, column by column
pub record AreTurned (rows : List (List ℕ)) (width : ℕ) (cells : List ℕ) : Type 0 where
  pub count : length cells ≡ width * length rows
  pub each : (c k : ℕ) → c < width → k < length rows
      → get_or cells (c * length rows + k) 0 ≡ get_or (get_or rows k []) c 0

-- a table of this many rows after its round
pub record IsRoundOf (cells : List ℕ) (rows width : ℕ) (kept : ℕ) (slots turned : List ℕ)
    : Type 0 where
  pub places : length slots ≡ rows
  pub few : kept ≤ rows
  pub order : IsInOrder slots kept
  pub count : length turned ≡ width * kept
  pub same : (i c : ℕ) → i < rows → c < width
      → get_or turned (c * kept + get_or slots i 0) 0 ≡ get_or cells (i * width + c) 0
  pub once : (i j : ℕ) → i < rows → j < rows
      → ((c : ℕ) → c < width → get_or cells (i * width + c) 0 ≡ get_or cells (j * width + c) 0)
      → get_or slots i 0 ≡ get_or slots j 0
