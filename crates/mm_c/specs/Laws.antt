-- The laws of this crate: of the spelling of programs, of the memory, and of runs.
use Rattle.std.specs.Prelude.{true, ◌≡◌, ◌≢◌, ℕ, ◌+◌, ◌%◌, ◌≤◌, ◌⊎◌, ◌↔◌, List, [], ◌∷◌, ◌++◌, length, map, slice_get, Some, None}
use Rattle.mm_c.specs.declared.value.CCell.{CCell}
use Rattle.mm_c.specs.declared.value.CValue.{CValue}
use Rattle.mm_c.specs.declared.value.CValue.TheVariants.{At}
use Rattle.mm_c.specs.Tree.{Program}
use Rattle.mm_c.specs.Tokens.{Place}
use Rattle.mm_c.specs.WellFormed.{well_formed}
use Rattle.mm_c.specs.Spelling.{SpellsProgram, RefusedAt}
use Rattle.mm_c.specs.Printing.{text_of, program_tokens}
use Rattle.mm_c.specs.Memory.{width_of, zero_of, Block, load, store, fresh}

-- ---- spelling

-- A text spells at most one program.
abbrev pub OneProgram : Type 0
OneProgram = (text : List ℕ) (p q : Program) → SpellsProgram text p → SpellsProgram text q → p ≡ q

-- What is written of a well-formed program spells it.
abbrev pub WrittenIsSpelled : Type 0
WrittenIsSpelled = (p : Program) → well_formed p ≡ true → SpellsProgram (text_of (program_tokens p)) p

-- A text that spells a program is refused nowhere.
abbrev pub SpelledIsNotRefused : Type 0
SpelledIsNotRefused = (text : List ℕ) (p : Program) (place : Place) → SpellsProgram text p → RefusedAt text place → ⊥

-- A text is refused at most at one place.
abbrev pub OneRefusal : Type 0
OneRefusal = (text : List ℕ) (a b : Place) → RefusedAt text a → RefusedAt text b → a ≡ b

-- ---- memory

-- A load at the place of a store gives what was stored.
abbrev pub LoadsWhatWasStored : Type 0
LoadsWhatWasStored =
    (memory after : List Block) (kind : CCell) (p : CValue) (n : ℕ) (v : CValue) →
    store memory kind p n v ≡ Some after → load after kind p n ≡ Some v

-- Two cells, in blocks b and c at these offsets, have no byte in common.
abbrev pub ShareNoByte : ℕ → ℕ → CCell → ℕ → ℕ → CCell → Type 0
ShareNoByte b offset kind c offset' kind' = (b ≢ c) ⊎ (offset + width_of kind ≤ offset') ⊎ (offset' + width_of kind' ≤ offset)

-- A load that has no byte in common with a store gives what it gave before, and is stuck where it was.
abbrev pub LoadsAsBefore : Type 0
LoadsAsBefore =
    (memory after : List Block) (kind kind' : CCell) (b o n c o' n' : ℕ) (v : CValue) →
    store memory kind (At b o) n v ≡ Some after →
    ShareNoByte b (o + n) kind c (o' + n') kind' →
    load after kind' (At c o') n' ≡ load memory kind' (At c o') n'

-- A store makes no block, and none longer or shorter.
abbrev pub StoreKeepsSizes : Type 0
StoreKeepsSizes =
    (memory after : List Block) (kind : CCell) (p : CValue) (n : ℕ) (v : CValue) →
    store memory kind p n v ≡ Some after → map (λ (b : Block). b.size) after ≡ map (λ (b : Block). b.size) memory

-- Each aligned cell of a new block is zero or null.
abbrev pub FreshIsZero : Type 0
FreshIsZero =
    (memory : List Block) (size : ℕ) (kind : CCell) (o n : ℕ) →
    o + n + width_of kind ≤ size → (o + n) % width_of kind ≡ 0 →
    load (memory ++ fresh size ∷ []) kind (At (length memory) o) n ≡ Some (zero_of kind)

-- What is loaded lies where a pointer that isn't null points: in a block, from its first byte to its last, aligned.
pub record LiesInBlock (memory : List Block) (kind : CCell) (p : CValue) (n : ℕ) : Type 0 where
  pub at : ℕ
  pub offset : ℕ
  pub block : Block
  pub points : p ≡ At at offset
  pub there : slice_get memory at ≡ Some block
  pub within : offset + n + width_of kind ≤ block.size
  pub aligned : (offset + n) % width_of kind ≡ 0

-- A load or a store that isn't stuck stays in its block, aligned.
abbrev pub LoadsInBlock : Type 0
LoadsInBlock = (memory : List Block) (kind : CCell) (p : CValue) (n : ℕ) (v : CValue) → load memory kind p n ≡ Some v → LiesInBlock memory kind p n

abbrev pub StoresInBlock : Type 0
StoresInBlock = (memory after : List Block) (kind : CCell) (p : CValue) (n : ℕ) (v : CValue) → store memory kind p n v ≡ Some after → LiesInBlock memory kind p n

-- A load across bytes of what was just stored, at another place or as another kind, is stuck.
abbrev pub NoOtherLoad : Type 0
NoOtherLoad =
    (memory after : List Block) (kind kind' : CCell) (b o n o' n' : ℕ) (v : CValue) →
    store memory kind (At b o) n v ≡ Some after →
    (ShareNoByte b (o + n) kind b (o' + n') kind' → ⊥) → ((o + n ≡ o' + n') × (kind ≡ kind') → ⊥) →
    load after kind' (At b o') n' ≡ None

-- What is stuck stays so whatever is stored.
abbrev pub StuckStays : Type 0
StuckStays =
    (memory after : List Block) (kind kind' : CCell) (p q : CValue) (n m : ℕ) (v : CValue) →
    store memory kind p n v ≡ Some after → load memory kind' q m ≡ None → load after kind' q m ≡ None

-- A store is stuck exactly where a load is.
abbrev pub StuckAlike : Type 0
StuckAlike = (memory : List Block) (kind : CCell) (p : CValue) (n : ℕ) (v : CValue) → (store memory kind p n v ≡ None) ↔ (load memory kind p n ≡ None)
