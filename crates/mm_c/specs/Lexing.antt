-- How the tokens of a text are taken one by one, for a reader that holds no list of them. (Own.)
use Rattle.std.specs.Prelude.{◌≡◌, true, false, ◌⊎◌, ℕ, List, [], ◌∷◌, ◌++◌, not, ◌&&◌, Bool}
use Rattle.mm_c.specs.Tree.{Program}
use Rattle.mm_c.specs.Tokens.{Place, past, end_from, is_white, joins, tokens_from}
use Rattle.mm_c.specs.Spelling.{Parses, SpellsProgram, BreaksRule}

-- whether bytes go on with a piece, one after another
abbrev pub joins_on : List ℕ → List ℕ → Bool
joins_on p [] = true
joins_on p (b ∷ bs) = joins p b && joins_on (p ++ b ∷ []) bs

-- whether bytes are read as one token
abbrev pub is_token : List ℕ → Bool
is_token [] = false
is_token (b ∷ bs) = not (is_white b) && joins_on (b ∷ []) bs

-- White space is passed over.
abbrev pub WhiteStep : Type 0
WhiteStep = (here : Place) (b : ℕ) (rest : List ℕ) → is_white b ≡ true → tokens_from here (b ∷ rest) ≡ tokens_from (past here b) rest

-- A token that the next byte doesn't go on with, or that the text ends with, is the first one.
abbrev pub TokenStep : Type 0
TokenStep = (here : Place) (t : List ℕ) (b : ℕ) (rest : List ℕ) → is_token t ≡ true → joins t b ≡ false →
    tokens_from here (t ++ b ∷ rest) ≡ record { text = t; place = here } ∷ tokens_from (end_from here t) (b ∷ rest)

abbrev pub TokenEnd : Type 0
TokenEnd = (here : Place) (t : List ℕ) → is_token t ≡ true → tokens_from here t ≡ record { text = t; place = here } ∷ []

-- A text of the grammar spells its tree, or breaks a rule somewhere.
abbrev pub TreesAreJudged : Type 0
TreesAreJudged = (text : List ℕ) (p : Program) (places : List Place) → Parses text p places → SpellsProgram text p ⊎ ((place : Place) × BreaksRule text place)
