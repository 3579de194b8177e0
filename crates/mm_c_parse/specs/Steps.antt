-- What a reader of tokens says of the part of the grammar that it reads. Own.
use Rattle.std.specs.Prelude.{◌≡◌, ℕ, Bool, true, false, List, [], ◌∷◌, ◌++◌, map, Result, Ok, Err}
use Rattle.std.specs.Result.{result_map_both}
use Rattle.mm_grammar.specs.Grammar.{Avoids, Reads, Fails}
use Rattle.mm_c.specs.Tokens.{Token, class_of}
use Rattle.mm_c.specs.Grammar.{P, texts, w, ◌▸◌}
use Rattle.mm_c_parse.specs.declared.step.Stop.{Stop}
use Rattle.mm_c_parse.specs.declared.step.Stop.TheVariants as stop

-- It reads the longest front of the tokens. A value is the front's, and a fault says that it has none; either way
-- the rest is what follows the front. Want of memory says nothing.
pub record Answers {A : Type 0} (p : P A) (ts : List Token) (r : Result A Stop) (rest : List Token) : Type 0 where
  pub read : (v : A) → r ≡ Ok v → Reads texts p ts v rest
  pub fault : r ≡ Err stop.Fault → Fails texts p ts rest

-- The tokens begin with one of each of these classes, in this order, and this is the rest.
pub record Marks (cs : List ℕ) (ts : List Token) (rest : List Token) : Type 0 where
  pub used : List Token
  pub cut : ts ≡ used ++ rest
  pub classes : map class_of used ≡ cs

-- They begin so, up to a token of another class, or the end, where the rest begins.
pub record Broken (cs : List ℕ) (ts : List Token) (rest : List Token) : Type 0 where
  pub used : List Token
  pub cut : ts ≡ used ++ rest
  pub wanted : ℕ
  pub more : List ℕ
  pub classes : map class_of used ++ wanted ∷ more ≡ cs
  pub other : Avoids texts (wanted ∷ []) rest

pub record Passes (cs : List ℕ) (ts : List Token) (r : Result (Unit {0}) Stop) (rest : List Token) : Type 0 where
  pub passed : (u : Unit {0}) → r ≡ Ok u → Marks cs ts rest
  pub broken : (e : Stop) → r ≡ Err e → (e ≡ stop.Fault) × Broken cs ts rest

-- A token of the class was passed over, or none stands there.
pub record Skips (c : ℕ) (ts : List Token) (b : Bool) (rest : List Token) : Type 0 where
  pub passed : b ≡ true → Marks (c ∷ []) ts rest
  pub none : b ≡ false → (rest ≡ ts) × Avoids texts (c ∷ []) ts

-- the part behind tokens of these classes
abbrev pub behind : {A : Type 0} → List ℕ → P A → P A
behind [] q = q
behind (c ∷ cs) q = w c ▸ behind cs q

-- an answer, with what its value is seen as
abbrev pub seen : {A B : Type 0} → (A → B) → Result A Stop → Result B Stop
seen f r = result_map_both f (λ e. e) r
