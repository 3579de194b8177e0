-- What a piece of a text is, and the longest piece at its front (ISO/IEC 14882:1998, 2.1 and 2.4).
use Rattle.std.specs.Prelude.{◌≡◌, ◌≢◌, ℕ, ◌<◌, Bool, true, false, not, ◌&&◌, ◌||◌, ◌==◌, if◌then◌else◌, IsTrue, List, [], ◌∷◌, ◌++◌, length, ◌⊎◌}
use Rattle.std.specs.List.{list_all}
use Rattle.mm_token.specs.Characters.{sort_of, continues, is_pair}
use Rattle.mm_token.specs.declared.piece.Sort.TheVariants as sort_is
use Rattle.mm_token.specs.declared.piece.Shape.{Shape}
use Rattle.mm_token.specs.declared.piece.Shape.TheVariants as shape

-- no end of a comment begins here
abbrev pub ends_not : ℕ → ℕ → Bool
ends_not c d = not (c == 42 && d == 47)

-- a comment's text after its /* has no */
abbrev pub is_open : List ℕ → Bool
is_open [] = true
is_open (c ∷ []) = true
is_open (c ∷ d ∷ r) = ends_not c d && is_open (d ∷ r)

-- a comment's text after its /* has its first */ at its end
abbrev pub is_closed : List ℕ → Bool
is_closed [] = false
is_closed (c ∷ []) = false
is_closed (c ∷ d ∷ []) = c == 42 && d == 47
is_closed (c ∷ d ∷ e ∷ r) = ends_not c d && is_closed (d ∷ e ∷ r)

-- ---- the texts of each shape

abbrev pub IsBlank : List ℕ → Type 0
IsBlank [] = ⊥
IsBlank (c ∷ r) = (sort_of c ≡ sort_is.Blank) × (r ≡ [])

-- // and what stands before the end of the line (2.7)
abbrev pub IsLine : List ℕ → Type 0
IsLine [] = ⊥
IsLine (c ∷ []) = ⊥
IsLine (c ∷ d ∷ r) = (c ≡ 47) × (d ≡ 47) × IsTrue (list_all (λ e. not (e == 10)) r)

-- /* and all up to the first */ (2.7)
abbrev pub IsBlock : List ℕ → Type 0
IsBlock [] = ⊥
IsBlock (c ∷ []) = ⊥
IsBlock (c ∷ d ∷ r) = (c ≡ 47) × (d ≡ 42) × IsTrue (is_closed r)

-- a comment without an end
abbrev pub IsOpen : List ℕ → Type 0
IsOpen [] = ⊥
IsOpen (c ∷ []) = ⊥
IsOpen (c ∷ d ∷ r) = (c ≡ 47) × (d ≡ 42) × IsTrue (is_open r)

abbrev pub IsWord : List ℕ → Type 0
IsWord [] = ⊥
IsWord (c ∷ r) = (sort_of c ≡ sort_is.Letter) × IsTrue (list_all continues r)

-- a digit and all that an identifier's characters add to it; which of these are numbers is asked later (2.9)
abbrev pub IsNumber : List ℕ → Type 0
IsNumber [] = ⊥
IsNumber (c ∷ r) = (sort_of c ≡ sort_is.Digit) × IsTrue (list_all continues r)

-- one character of punctuation, but | only as ||, or a mark of two (2.12)
abbrev pub IsMark : List ℕ → Type 0
IsMark [] = ⊥
IsMark (c ∷ []) = (sort_of c ≡ sort_is.Slash) ⊎ ((sort_of c ≡ sort_is.Punctuation) × (c ≢ 124))
IsMark (c ∷ d ∷ []) = ((sort_of c ≡ sort_is.Slash) ⊎ (sort_of c ≡ sort_is.Punctuation)) × IsTrue (is_pair c d)
IsMark (c ∷ d ∷ e ∷ r) = ⊥

-- whether a directive goes on with the first of these characters: the line doesn't end here, nor does // begin here,
-- which begins no comment in quotes (2.7, 2.8)
abbrev pub goes_on_line : Bool → List ℕ → Bool
goes_on_line quoted [] = false
goes_on_line quoted (c ∷ []) = not (c == 10)
goes_on_line quoted (c ∷ d ∷ r) = not (c == 10) && (quoted || not (c == 47 && d == 47))

-- whether the next character stands in quotes
abbrev pub quoted_after : Bool → ℕ → Bool
quoted_after quoted c = if c == 34 then not quoted else quoted

-- whether a directive goes on with all of these characters, before this rest
abbrev pub is_on_line : Bool → List ℕ → List ℕ → Bool
is_on_line quoted [] rest = true
is_on_line quoted (c ∷ r) rest = goes_on_line quoted (c ∷ (r ++ rest)) && is_on_line (quoted_after quoted c) r rest

-- # and what stands before the end of the line or a comment to it, where # is the first character of its line past white
-- space (clause 16)
abbrev pub IsDirective : Bool → List ℕ → List ℕ → Type 0
IsDirective fresh [] rest = ⊥
IsDirective fresh (c ∷ r) rest = (fresh ≡ true) × (sort_of c ≡ sort_is.Hash) × IsTrue (is_on_line false r rest)

-- what texts a shape has, before this rest; fresh says that only white space stands before on the line
abbrev pub IsPiece : Bool → Shape → List ℕ → List ℕ → Type 0
IsPiece fresh shape.Blank cs rest = IsBlank cs
IsPiece fresh shape.Line cs rest = IsLine cs
IsPiece fresh shape.Block cs rest = IsBlock cs
IsPiece fresh shape.Open cs rest = IsOpen cs
IsPiece fresh shape.Word cs rest = IsWord cs
IsPiece fresh shape.Number cs rest = IsNumber cs
IsPiece fresh shape.Mark cs rest = IsMark cs
IsPiece fresh shape.Directive cs rest = IsDirective fresh cs rest

-- ---- the longest piece

-- The text begins with this piece, and with no longer one (2.4/3).
pub record IsLongest (fresh : Bool) (text : List ℕ) (kind : Shape) (piece rest : List ℕ) : Type 0 where
  pub cut : text ≡ piece ++ rest
  pub is_piece : IsPiece fresh kind piece rest
  pub longest : (other : Shape) (c : ℕ) (more tail : List ℕ) → rest ≡ (c ∷ more) ++ tail → IsPiece fresh other (piece ++ c ∷ more) tail → ⊥

-- The text begins with a longest piece of this shape, which this rest follows.
abbrev pub Begins : Bool → List ℕ → Shape → List ℕ → Type 0
Begins fresh text kind rest = (piece : List ℕ) × (0 < length piece) × IsLongest fresh text kind piece rest

-- The text begins with no piece.
abbrev pub HasNone : Bool → List ℕ → Type 0
HasNone fresh text = (kind : Shape) (piece tail : List ℕ) → text ≡ piece ++ tail → IsPiece fresh kind piece tail → ⊥
