-- What C's values are, and the memory that its pointers point to: numbered blocks, each with a size and with the
-- values that were stored in it. (ISO/IEC 14882, 1.7 and 3.9 in outline; the rules on misuse are own.)
use Rattle.std.specs.Prelude.{ℕ, pos, ◌+◌, ◌%◌, ◌&&◌, ◌||◌, ◌==◌, Bool, true, false, nat_le, List, [], ◌∷◌, Option, Some, None, if◌then◌else◌, slice_get, slice_set}
use Rattle.std.specs.List.{list_all}
use Rattle.mm_c.specs.declared.value.CCell.{CCell}
use Rattle.mm_c.specs.declared.value.CCell.TheVariants as cell
use Rattle.mm_c.specs.declared.value.CValue.{CValue}
use Rattle.mm_c.specs.declared.value.CValue.TheVariants.{Int, Unsigned, Long, Null, At}

-- the bytes of a cell, and what its offset is a multiple of
abbrev pub width_of : CCell → ℕ
width_of cell.Int = 4
width_of cell.Unsigned = 4
width_of cell.Short = 2
width_of cell.Pointer = 8

-- what a cell holds where nothing was stored: zero, or null
abbrev pub zero_of : CCell → CValue
zero_of cell.Int = Int (pos 0)
zero_of cell.Unsigned = Unsigned 0
zero_of cell.Short = Unsigned 0
zero_of cell.Pointer = Null

abbrev pub same_kind : CCell → CCell → Bool
same_kind cell.Int cell.Int = true
same_kind cell.Unsigned cell.Unsigned = true
same_kind cell.Short cell.Short = true
same_kind cell.Pointer cell.Pointer = true
same_kind _ _ = false

-- A value that was stored: where, as what, and which.
pub record Cell : Type 0 where
  pub offset : ℕ
  pub kind : CCell
  pub value : CValue

-- A block: its size in bytes, and its cells, the latest first.
pub record Block : Type 0 where
  pub size : ℕ
  pub cells : List Cell

-- the bytes of a cell and those from an offset on have none in common
abbrev pub is_apart : ℕ → ℕ → Cell → Bool
is_apart offset width c = nat_le (offset + width) c.offset || nat_le (c.offset + width_of c.kind) offset

-- A cell of a kind may stand at an offset: it lies in the block, aligned, and shares bytes with no cell of another
-- kind or at another offset.
abbrev pub has_room : CCell → ℕ → Block → Bool
has_room kind offset b =
    nat_le (offset + width_of kind) b.size
    && (offset % width_of kind == 0)
    && list_all (λ (c : Cell). is_apart offset (width_of kind) c || ((c.offset == offset) && same_kind c.kind kind)) b.cells

-- the latest value stored at an offset
abbrev pub latest : ℕ → List Cell → Option CValue
latest offset [] = None
latest offset (c ∷ cs) = if c.offset == offset then Some c.value else latest offset cs

abbrev pub value_or : CValue → Option CValue → CValue
value_or zero None = zero
value_or zero (Some v) = v

-- what a cell of a block holds, where a cell of the kind may stand there
abbrev pub load_in : CCell → ℕ → Option Block → Option CValue
load_in kind offset None = None
load_in kind offset (Some b) = if has_room kind offset b then Some (value_or (zero_of kind) (latest offset b.cells)) else None

-- What a load gives at a pointer and an offset past it, or nothing where it is stuck.
abbrev pub load : List Block → CCell → CValue → ℕ → Option CValue
load memory kind (At b o) n = load_in kind (o + n) (slice_get memory b)
load memory kind Null n = None
load memory kind (Int z) n = None
load memory kind (Unsigned m) n = None
load memory kind (Long z) n = None

abbrev pub with_cell : Block → CCell → ℕ → CValue → Block
with_cell b kind offset v = record { size = b.size; cells = record { offset = offset; kind = kind; value = v } ∷ b.cells }

abbrev pub store_in : List Block → ℕ → CCell → ℕ → CValue → Option Block → Option (List Block)
store_in memory b kind offset v None = None
store_in memory b kind offset v (Some x) = if has_room kind offset x then Some (slice_set memory b (with_cell x kind offset v)) else None

-- The memory after a store at a pointer and an offset past it, or nothing where it is stuck.
abbrev pub store : List Block → CCell → CValue → ℕ → CValue → Option (List Block)
store memory kind (At b o) n v = store_in memory b kind (o + n) v (slice_get memory b)
store memory kind Null n v = None
store memory kind (Int z) n v = None
store memory kind (Unsigned m) n v = None
store memory kind (Long z) n v = None

-- a block of a size, in which nothing was stored
abbrev pub fresh : ℕ → Block
fresh size = record { size = size; cells = [] }
