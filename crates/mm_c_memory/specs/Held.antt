-- Which memory of C a memory is that is held as halves of cells.
use Rattle.std.specs.Prelude.{◌≡◌, ℕ, ℤ, pos, nat_le, ◌+◌, ◌*◌, ◌/◌, ◌<◌, ◌≤◌, ◌&&◌, ◌||◌, ◌==◌, Bool, true, false, nat_lt, List, [], ◌∷◌, length, get_or, Option, Some, None, if◌then◌else◌}
use Rattle.std.specs.List.{list_all}
use Rattle.mm_c.specs.declared.value.CCell.{CCell}
use Rattle.mm_c.specs.declared.value.CValue.{CValue}
use Rattle.mm_c.specs.declared.value.CValue.TheVariants.{Int, Unsigned, Long, Null, At}
use Rattle.mm_c.specs.Memory.{width_of, same_kind, Cell, is_apart, has_room}
use Rattle.mm_c.specs.Memory as c
use Rattle.mm_c_memory.specs.declared.memory.Half.{Half}
use Rattle.mm_c_memory.specs.declared.memory.Half.TheVariants as half
use Rattle.mm_c_memory.specs.declared.memory.Block.{Block}
use Rattle.mm_c_memory.specs.declared.memory.Memory.{Memory}

-- the half in which a cell of a kind begins, with its value
abbrev pub cell_in : CCell → CValue → Half
cell_in k (Int z) = half.Int k z
cell_in k (Unsigned n) = half.Unsigned k n
cell_in k (Long z) = half.Long k z
cell_in k Null = half.Null k
cell_in k (At b o) = half.At k o b

-- the half of the bytes 2 i and 2 i + 1, by the cells that were stored, the latest first
abbrev pub half_at : ℕ → List Cell → Half
half_at i [] = half.Empty
half_at i (x ∷ xs) =
    if x.offset == 2 * i then cell_in x.kind x.value
    else (if nat_lt x.offset (2 * i) && nat_lt (2 * i) (x.offset + width_of x.kind) then half.Inside else half_at i xs)

abbrev pub is_free : Half → Bool
is_free half.Empty = true
is_free (half.Int k z) = false
is_free (half.Unsigned k n) = false
is_free (half.Long k z) = false
is_free (half.Null k) = false
is_free (half.At k o b) = false
is_free half.Inside = false

-- the kind of the cell that begins in a half, and its value
abbrev pub kind_in : Half → Option CCell
kind_in half.Empty = None
kind_in (half.Int k z) = Some k
kind_in (half.Unsigned k n) = Some k
kind_in (half.Long k z) = Some k
kind_in (half.Null k) = Some k
kind_in (half.At k o b) = Some k
kind_in half.Inside = None

abbrev pub value_in : Half → Option CValue
value_in half.Empty = None
value_in (half.Int k z) = Some (Int z)
value_in (half.Unsigned k n) = Some (Unsigned n)
value_in (half.Long k z) = Some (Long z)
value_in (half.Null k) = Some Null
value_in (half.At k o b) = Some (At b o)
value_in half.Inside = None

-- From one number on and below another, nothing was stored in the halves.
abbrev pub AreEmpty : List Half → ℕ → ℕ → Type 0
AreEmpty halves from to = (i : ℕ) → from ≤ i → i < to → is_free (get_or halves i half.Empty) ≡ true

-- halves in which those from one number on and below another are inside of a cell
pub record WithInside (old : List Half) (from to : ℕ) (new : List Half) : Type 0 where
  pub count : length new ≡ length old
  pub inside : (i : ℕ) → from ≤ i → i < to → get_or new i half.Empty ≡ half.Inside
  pub before : (i : ℕ) → i < from → get_or new i half.Empty ≡ get_or old i half.Empty
  pub behind : (i : ℕ) → to ≤ i → get_or new i half.Empty ≡ get_or old i half.Empty

-- a cell of a kind at an offset shares no byte with the cells but those of its kind and place
abbrev pub is_clear : CCell → ℕ → List Cell → Bool
is_clear kind offset = list_all (λ (x : Cell). is_apart offset (width_of kind) x || ((x.offset == offset) && same_kind x.kind kind))

-- Each cell begins at an even offset, and had room among those before it.
abbrev pub WereStored : List Cell → Type 0
WereStored [] = Unit {0}
WereStored (x ∷ xs) = (q : ℕ) × ((x.offset ≡ 2 * q) × (is_clear x.kind x.offset xs ≡ true) × WereStored xs)

-- a block of C, and the one that is held
pub record HoldsBlock (b : c.Block) (h : Block) : Type 0 where
  pub size : h.size ≡ b.size
  pub count : length h.halves.items ≡ b.size / 2
  pub halves : (i : ℕ) → i < length h.halves.items → get_or h.halves.items i half.Empty ≡ half_at i b.cells
  pub stored : WereStored b.cells

abbrev pub HoldBlocks : List c.Block → List Block → Type 0
HoldBlocks [] [] = Unit {0}
HoldBlocks (b ∷ bs) (h ∷ hs) = HoldsBlock b h × HoldBlocks bs hs
HoldBlocks _ _ = ⊥

-- a memory of C, and the one that is held
pub record Holds (m : List c.Block) (held : Memory) : Type 0 where
  pub blocks : HoldBlocks m held.blocks.items

-- after a store in a block: whether there was room, and the block with the cell where there was
abbrev pub StoresIn : Bool → c.Block → CCell → ℕ → CValue → Block → Type 0
StoresIn true b kind offset v after = (has_room kind offset b ≡ true) × HoldsBlock (c.with_cell b kind offset v) after
StoresIn false b kind offset v after = has_room kind offset b ≡ false

-- after a store: whether it isn't stuck, and the memory that it leaves
abbrev pub Stores : Bool → Option (List c.Block) → Memory → Type 0
Stores true (Some m) after = Holds m after
Stores true None after = ⊥
Stores false (Some m) after = ⊥
Stores false None after = Unit {0}

abbrev pub size_in : Option c.Block → Option ℕ
size_in None = None
size_in (Some b) = Some b.size

-- a pointer into a block, at an offset from 0 to its size
abbrev pub moved_to : ℕ → ℤ → Option ℕ → Option CValue
moved_to b (pos o) (Some size) = if nat_le o size then Some (At b o) else None
moved_to b _ _ = None
