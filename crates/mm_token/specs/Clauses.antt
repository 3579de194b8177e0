-- What the reader's functions answer.
use Rattle.std.specs.Prelude.{◌≡◌, ℕ, ◌<◌, false, IsTrue, List, length, Option, Some}
use Rattle.mm_base.specs.Outside.{Contents, FilesSeen}
use Rattle.mm_base.specs.declared.place.Place.{Place}
use Rattle.mm_token.specs.declared.piece.Shape.{Shape}
use Rattle.mm_token.specs.declared.piece.Shape.TheVariants as shape
use Rattle.mm_token.specs.declared.unit.Unit.{Unit as Reader}
use Rattle.mm_token.specs.declared.token.TokenEnd.{TokenEnd}
use Rattle.mm_token.specs.Characters.{characters_of, is_text, place_after}
use Rattle.mm_token.specs.Tokens.{State, with_file, file_start, was_included, file_named, Includes, PutsText, PutsFile, StopsText, Refuses, Stopped}
use Rattle.mm_token.specs.Causes.{HasCause}
use Rattle.mm_token.specs.Unit.{state_of, Agrees, Grows}

-- Reading ended for this reason, whose cause is outside where it has to be.
pub record Ended (P : Type 0) (e : TokenEnd) (old new : FilesSeen) : Type 0 where
  pub why : Stopped e P
  pub cause : HasCause e old new

-- Reading went on to a state, by no more tokens and files than n and the bytes.
pub record Went (s : State) (u : Reader) (n : ℕ) (P : State → Type 0) : Type 0 where
  pub puts : P (state_of u)
  pub agrees : Agrees u
  pub grows : Grows s (state_of u) n

-- an include of a file with files included in it fewer than n deep
abbrev pub IncludesFile : Option Contents → ℕ → List ℕ → State → State → Type 0
IncludesFile held n name s t = Includes (PutsFile held n) (Some name) s t

abbrev pub RefusesFile : Option Contents → ℕ → List ℕ → List ℕ → Place → State → TokenEnd → Type 0
RefusesFile held n from name at s e = (was_included s name ≡ false) × Refuses held n from name at s e

-- one piece
abbrev pub RefusesPiece : Option Contents → ℕ → List ℕ → Shape → List ℕ → Place → State → TokenEnd → Type 0
RefusesPiece held n from kind line at s e = (name : List ℕ) × (kind ≡ shape.Directive) × (file_named line ≡ Some name) × RefusesFile held n from name at s e

-- a text that begins here
abbrev pub PutsWhole : Option Contents → ℕ → List ℕ → Place → State → Place → State → Type 0
PutsWhole held n text at s end t = PutsText (PutsFile held n) text at s t × (end ≡ place_after at text)

abbrev pub StopsWhole : Option Contents → ℕ → List ℕ → List ℕ → Place → State → TokenEnd → Type 0
StopsWhole held n name text at s e = StopsText (PutsFile held n) (Refuses held n name) name text at s e

-- a file of these bytes
abbrev pub PutsBytes : Option Contents → ℕ → List ℕ → List ℕ → State → Place → State → Type 0
PutsBytes held n name bytes s end t = PutsWhole held n (characters_of bytes) (file_start s) (with_file s name (length bytes)) end t × (length s.files < length t.files)

abbrev pub StopsBytes : Option Contents → ℕ → List ℕ → List ℕ → State → TokenEnd → Type 0
StopsBytes held n name bytes s e = StopsWhole held n name (characters_of bytes) (file_start s) (with_file s name (length bytes)) e

-- a token is all characters
abbrev pub IsText : Shape → List ℕ → Type 0
IsText shape.Word text = IsTrue (is_text text)
IsText shape.Number text = IsTrue (is_text text)
IsText shape.Mark text = IsTrue (is_text text)
IsText _ text = Unit {0}
