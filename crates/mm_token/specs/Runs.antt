-- What the scanner's small functions ask and answer.
use Rattle.std.specs.Prelude.{◌≡◌, ℕ, ◌<◌, ◌≤◌, Bool, not, if◌then◌else◌, IsTrue, List, [], ◌∷◌, length, slice_index, ◌⊎◌}
use Rattle.mm_token.specs.Characters.{sort_of}
use Rattle.mm_token.specs.Pieces.{goes_on_line, quoted_after}
use Rattle.mm_token.specs.Words.{is_number, is_in_range, value_of}
use Rattle.mm_token.specs.declared.words.Wrong.{Wrong}
use Rattle.mm_token.specs.declared.words.Wrong.TheVariants as wrong
use Rattle.mm_token.specs.declared.piece.Sort.{Sort}
use Rattle.mm_token.specs.declared.piece.Sort.TheVariants as sort_is

-- the first n pass, and the next doesn't
pub record IsRunOf (p : ℕ → Bool) (text : List ℕ) (n : ℕ) : Type 0 where
  pub within : n ≤ length text
  pub passes : (k : ℕ) → k < n → IsTrue (p (slice_index text k))
  pub stops : n < length text → IsTrue (not (p (slice_index text n)))

-- what stands behind a directive, of which so much was read
abbrev pub behind_line : Bool → List ℕ → List ℕ
behind_line quoted [] = []
behind_line quoted (c ∷ r) = if goes_on_line quoted (c ∷ r) then behind_line (quoted_after quoted c) r else c ∷ r

-- which texts begin a comment, or else a mark if any piece
abbrev pub BeginsComment : List ℕ → Type 0
BeginsComment [] = ⊥
BeginsComment (c ∷ []) = ⊥
BeginsComment (c ∷ d ∷ r) = (c ≡ 47) × ((d ≡ 47) ⊎ (d ≡ 42))

abbrev pub IsHead : ℕ → Type 0
IsHead c = (sort_of c ≡ sort_is.Slash) ⊎ (sort_of c ≡ sort_is.Punctuation)

abbrev pub MayBeMark : List ℕ → Type 0
MayBeMark [] = ⊥
MayBeMark (c ∷ r) = IsHead c × ¬ (BeginsComment (c ∷ r))

abbrev pub BeginsWith : List ℕ → Sort → Type 0
BeginsWith [] s = ⊥
BeginsWith (c ∷ r) s = sort_of c ≡ s

-- the value of a number
pub record NumberValue (text : List ℕ) (n : ℕ) : Type 0 where
  pub is_number : IsTrue (is_number text)
  pub in_range : IsTrue (is_in_range text)
  pub value : n ≡ value_of text

-- what is wrong with a number
abbrev pub NumberFault : List ℕ → Wrong → Type 0
NumberFault text wrong.NoToken = IsTrue (not (is_number text))
NumberFault text wrong.Range = IsTrue (is_number text) × IsTrue (not (is_in_range text))
NumberFault text _ = ⊥
