-- What a reader says of a part of the grammar that has places. Own.
use Rattle.std.specs.Prelude.{◌≡◌, ℕ, true, false, Bool, List, [], ◌∷◌, ◌++◌, Result, Ok, Err}
use Rattle.mm_grammar.specs.Grammar.{Avoids, Reads, Fails}
use Rattle.mm_c.specs.Tokens.{Token, Place, class_of}
use Rattle.mm_c.specs.Grammar.{P, Placed, texts}
use Rattle.mm_c_parse.specs.declared.step.Stop.{Stop}
use Rattle.mm_c_parse.specs.declared.step.Stop.TheVariants as stop

-- It reads the longest front of the tokens. A value, as it is seen, is the tree of the front, and the places of its items
-- and statements were added to a list; a fault says that the front has none. Want of memory says nothing.
pub record Gathers {T A : Type 0} (view : T → A) (p : P (Placed A)) (ts : List Token) (before : List Place) (r : Result T Stop) (after : List Place) (rest : List Token) : Type 0 where
  pub read : (x : T) → r ≡ Ok x → (places : List Place) × (after ≡ before ++ places) × Reads texts p ts (record { tree = view x; places = places }) rest
  pub fault : r ≡ Err stop.Fault → Fails texts p ts rest

-- A token of the class was passed over, and its place added to a list; or none stands there.
pub record Begins (c : ℕ) (ts : List Token) (before : List Place) (b : Bool) (after : List Place) (rest : List Token) : Type 0 where
  pub passed : b ≡ true → (t : Token) × (ts ≡ t ∷ rest) × (class_of t ≡ c) × (after ≡ before ++ t.place ∷ [])
  pub none : b ≡ false → (rest ≡ ts) × (after ≡ before) × Avoids texts (c ∷ []) ts
