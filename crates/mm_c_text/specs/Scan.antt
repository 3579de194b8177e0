-- Where a token begins and ends. (Own.)
use Rattle.std.specs.Prelude.{◌≡◌, true, false, ℕ, List, [], ◌∷◌}
use Rattle.mm_c.specs.Tokens.{is_white, joins}
use Rattle.mm_c.specs.Lexing.{is_token}

-- No white space stands in front.
abbrev pub Dark : List ℕ → Type 0
Dark [] = Unit {0}
Dark (b ∷ bs) = is_white b ≡ false

-- What follows doesn't go on with the token.
abbrev pub Ends : List ℕ → List ℕ → Type 0
Ends t [] = Unit {0}
Ends t (b ∷ bs) = joins t b ≡ false

-- The bytes are one token, with which what follows doesn't go on.
pub record IsFirst (t : List ℕ) (rest : List ℕ) : Type 0 where
  pub token : is_token t ≡ true
  pub ends : Ends t rest
