-- What the reader keeps of the files that it has read.
use Rattle.std.specs.Prelude.{◌≡◌, ℕ, ◌+◌, ◌≤◌, List, length, drop}
use Rattle.std.specs.List.{list_any}
use Rattle.std.specs.BTreeSet.{contains_text}
use Rattle.mm_base.specs.declared.limits.TheConstants.{MAX_UNIT_BYTES}
use Rattle.mm_token.specs.declared.piece.Shape.{Shape}
use Rattle.mm_token.specs.declared.piece.Shape.TheVariants as shape
use Rattle.mm_token.specs.declared.unit.Unit.{Unit as Reader}
use Rattle.mm_token.specs.Words.{is_among}
use Rattle.mm_token.specs.Tokens.{State, awaits_class, is_class_name}

abbrev pub state_of : Reader → State
state_of u = record { files = u.files; tokens = u.list; bytes = u.bytes }

-- The sets have the names of the included files and the class names.
pub record Agrees (u : Reader) : Type 0 where
  pub included : (name : List ℕ) → contains_text u.included.set name ≡ is_among name (drop 1 u.files)
  pub classes : (word : List ℕ) → contains_text u.classes.set word ≡ list_any (is_class_name word) u.list
  pub awaiting : u.awaiting ≡ awaits_class u.list

pub record Becomes (u : Reader) (s : State) : Type 0 where
  pub state : state_of u ≡ s
  pub agrees : Agrees u

-- how much was begun
abbrev pub weight : State → ℕ
weight s = length s.tokens + length s.files

-- There is room for n more tokens or files.
pub record HasRoom (s : State) (n : ℕ) : Type 0 where
  pub counted : weight s + n ≤ s.bytes + 1
  pub limited : s.bytes ≤ MAX_UNIT_BYTES

-- Tokens and files are no more than n and the bytes that were added.
pub record Grows (s t : State) (n : ℕ) : Type 0 where
  pub counted : weight t + s.bytes ≤ weight s + t.bytes + n
  pub files : length s.files ≤ length t.files
  pub limited : t.bytes ≤ MAX_UNIT_BYTES

-- the shapes that are tokens
abbrev pub IsTokenShape : Shape → Type 0
IsTokenShape shape.Word = Unit {0}
IsTokenShape shape.Number = Unit {0}
IsTokenShape shape.Mark = Unit {0}
IsTokenShape _ = ⊥
