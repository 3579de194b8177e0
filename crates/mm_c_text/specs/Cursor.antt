-- The tokens that are left of a C text, and what a cursor says of them. Own.
use Rattle.std.specs.Prelude.{◌≡◌, ◌<◌, take, drop, ℕ, Bool, true, false, IsTrue, List, [], ◌∷◌, length, Option, Some, None}
use Rattle.mm_grammar.specs.Grammar.{has, Begins, Avoids}
use Rattle.mm_c.specs.Tokens.{Token, classes, class_in, class_of, in_front, tokens_from}
use Rattle.mm_c.specs.Tokens as tokens
use Rattle.mm_c.specs.Grammar.{texts}
use Rattle.mm_c_text.specs.Scan.{IsFirst}
use Rattle.mm_c_text.specs.Places.{at, Fits}
use Rattle.mm_c_text.specs.Classes.{number_of}
use Rattle.mm_c_text.specs.declared.class.Class.{Class}
use Rattle.mm_c_text.specs.declared.place.Place.{Place}
use Rattle.mm_c_text.specs.declared.cursor.Lexeme.{Lexeme}

-- the class of a token with this text; 100 where there is none
abbrev pub class_at : List ℕ → ℕ
class_at [] = 100
class_at (b ∷ bs) = class_in classes (b ∷ bs)

-- the next token, which is none where its text is empty, and the tokens of the bytes behind it
abbrev pub left_of : List ℕ → tokens.Place → tokens.Place → List ℕ → List Token
left_of text here after rest = in_front here text (tokens_from after rest)

-- What a cursor keeps: the class of its next token, no bytes behind the end, and places that fit.
pub record IsAt (text : List ℕ) (class : Class) (after : Place) (rest : List ℕ) : Type 0 where
  pub kept : number_of class ≡ class_at text
  pub ended : text ≡ [] → rest ≡ []
  pub room : Fits after (length rest)

-- The first bytes, so many, are the next token; they are none at the end.
abbrev pub IsNext : ℕ → List ℕ → Type 0
IsNext n [] = n ≡ 0
IsNext n (b ∷ bs) = (0 < n) × IsFirst (take n (b ∷ bs)) (drop n (b ∷ bs))

-- the token in the text
abbrev pub token_of : Lexeme → Token
token_of x = record { text = x.text.now; place = at x.place }

-- A token of one of these classes was taken, or none stands there.
abbrev pub Eats : List ℕ → List Token → Option Lexeme → List Token → Type 0
Eats cs ts None rest = (rest ≡ ts) × Avoids texts cs ts
Eats cs ts (Some x) rest = (ts ≡ token_of x ∷ rest) × IsTrue (has (class_of (token_of x)) cs) × (number_of x.class ≡ class_of (token_of x))

-- The first of the tokens is of one of these classes, or not.
pub record Sees (cs : List ℕ) (ts : List Token) (b : Bool) : Type 0 where
  pub yes : b ≡ true → Begins texts cs ts
  pub no : b ≡ false → Avoids texts cs ts

-- where the first of the tokens stands
abbrev pub IsPlaceOf : Option Place → List Token → Type 0
IsPlaceOf None ts = ts ≡ []
IsPlaceOf (Some p) ts = (t : Token) × (more : List Token) × (ts ≡ t ∷ more) × (at p ≡ t.place)
