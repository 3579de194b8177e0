-- A text cut into its longest pieces, and what is wrong where it can't be cut (ISO/IEC 14882:1998, 2.1 and 2.4; the codes are own).
use Rattle.std.specs.Prelude.{◌≡◌, ℕ, ◌<◌, Bool, true, false, not, ◌==◌, if◌then◌else◌, IsTrue, List, [], ◌∷◌, ◌++◌, length, ◌⊎◌}
use lib.Utf8.{scalar as is_character}
use Rattle.mm_base.specs.declared.place.Place.{Place}
use Rattle.mm_base.specs.declared.code.Code.{Code}
use Rattle.mm_base.specs.declared.code.TheConstants.Code.{L1, L2, L3, L5}
use Rattle.mm_token.specs.declared.piece.Shape.{Shape}
use Rattle.mm_token.specs.declared.piece.Shape.TheVariants as shape
use Rattle.mm_token.specs.declared.words.Wrong.{Wrong}
use Rattle.mm_token.specs.declared.words.Wrong.TheVariants as wrong
use Rattle.mm_token.specs.Characters.{is_text, place_after}
use Rattle.mm_token.specs.Words.{is_number, is_in_range, is_directive}
use Rattle.mm_token.specs.Pieces.{IsLongest, HasNone}

-- a piece of a text
pub record Piece : Type 0 where
  pub kind : Shape
  pub text : List ℕ

-- the text of pieces, one behind the other
abbrev pub text_of : List Piece → List ℕ
text_of [] = []
text_of (p ∷ ps) = p.text ++ text_of ps

-- whether only white space stands on the line behind a piece, by whether it did before it
abbrev pub fresh_after : Bool → Shape → List ℕ → Bool
fresh_after fresh shape.Blank [] = fresh
fresh_after fresh shape.Blank (c ∷ cs) = if c == 10 then true else fresh
fresh_after fresh _ cs = false

abbrev pub fresh_behind : Bool → List Piece → Bool
fresh_behind fresh [] = fresh
fresh_behind fresh (p ∷ ps) = fresh_behind (fresh_after fresh p.kind p.text) ps

-- A comment has an end and is all characters, a number is one and in range, and a directive is one of the known.
abbrev pub IsGood : Shape → List ℕ → Type 0
IsGood shape.Open text = ⊥
IsGood shape.Line text = IsTrue (is_text text)
IsGood shape.Block text = IsTrue (is_text text)
IsGood shape.Number text = IsTrue (is_number text) × IsTrue (is_in_range text)
IsGood shape.Directive text = IsTrue (is_directive text)
IsGood _ text = Unit {0}

-- The text is cut into these pieces and a rest: each is good, and the longest where it stands.
abbrev pub IsCut : Bool → List ℕ → List Piece → List ℕ → Type 0
IsCut fresh text [] rest = text ≡ rest
IsCut fresh text (p ∷ ps) rest = (after : List ℕ) × IsLongest fresh text p.kind p.text after × IsGood p.kind p.text × IsCut (fresh_after fresh p.kind p.text) after ps rest

-- ---- faults

abbrev pub code_of : Wrong → Code
code_of wrong.NoToken = L1
code_of wrong.Unclosed = L2
code_of wrong.Range = L3
code_of wrong.Directive = L5

-- The first number of the text that is no character stands at this place.
abbrev pub IsSpoiledAt : List ℕ → Place → Place → Type 0
IsSpoiledAt text at place = (front : List ℕ) × (c : ℕ) × (more : List ℕ) × (text ≡ front ++ c ∷ more) × IsTrue (is_text front) × (is_character c ≡ false) × (place ≡ place_after at front)

-- what is wrong with a longest piece that stands at this place, and where
abbrev pub IsTrouble : Shape → List ℕ → Place → Wrong → Place → Type 0
IsTrouble shape.Open text at wrong.Unclosed place = place ≡ at
IsTrouble shape.Line text at wrong.NoToken place = IsSpoiledAt text at place
IsTrouble shape.Block text at wrong.NoToken place = IsSpoiledAt text at place
IsTrouble shape.Number text at wrong.NoToken place = IsTrue (not (is_number text)) × (place ≡ at)
IsTrouble shape.Number text at wrong.Range place = IsTrue (is_number text) × IsTrue (not (is_in_range text)) × (place ≡ at)
IsTrouble shape.Directive text at wrong.Directive place = IsTrue (not (is_directive text)) × (place ≡ at)
IsTrouble _ text at _ place = ⊥

-- No piece begins a text that isn't at its end.
abbrev pub IsStuck : Bool → List ℕ → Place → Wrong → Place → Type 0
IsStuck fresh text at wrong.NoToken place = (0 < length text) × HasNone fresh text × (place ≡ at)
IsStuck fresh text at _ place = ⊥

-- what is wrong with a text that stands at this place, and where
abbrev pub IsFault : Bool → List ℕ → Place → Wrong → Place → Type 0
IsFault fresh text at w place = IsStuck fresh text at w place ⊎ ((kind : Shape) × (piece : List ℕ) × (rest : List ℕ) × IsLongest fresh text kind piece rest × IsTrouble kind piece at w place)

-- One good piece was taken off the front.
pub record IsTaken (fresh : Bool) (text : List ℕ) (at : Place) (kind : Shape) (piece : List ℕ) (place : Place) (fresh' : Bool) (rest : List ℕ) (next : Place) : Type 0 where
  pub is_longest : IsLongest fresh text kind piece rest
  pub is_good : IsGood kind piece
  pub at_place : place ≡ at
  pub then_fresh : fresh' ≡ fresh_after fresh kind piece
  pub then_place : next ≡ place_after at piece
  pub some : 0 < length piece
