-- What a reader of tokens says of the part of the grammar that it reads. Own.
use Rattle.std.specs.Prelude.{◌≡◌, ℕ, IsTrue, List, [], ◌∷◌, map, Option, Some, None, Result, Ok, Err}
use Rattle.std.specs.Borrow.{Bor}
use Rattle.mm_grammar.specs.Grammar.{has, Avoids, Reads, Fails}
use Rattle.mm_token.specs.declared.token.Token.{Token}
use Rattle.mm_syntax.specs.declared.symbol.Symbol.{Symbol}
use Rattle.mm_syntax.specs.Symbols.{symbol_of, number_of}
use Rattle.mm_syntax.specs.Rules.{P, token, units}
use Rattle.mm_cursor.specs.declared.Stop.{Stop}
use Rattle.mm_cursor.specs.declared.Stop.TheVariants as stop

-- the number of the first token's symbol, or one more than any where there is none
abbrev pub next_of : List Token → ℕ
next_of [] = 62
next_of (t ∷ ts) = number_of (symbol_of t)

-- A token that is one of these was taken, or none stands there.
abbrev pub Eats : List Symbol → List Token → Option (Bor Token) → List Token → Type 0
Eats symbols ts None rest = (rest ≡ ts) × Avoids units (map number_of symbols) ts
Eats symbols ts (Some t) rest = (ts ≡ t.now ∷ rest) × IsTrue (has (number_of (symbol_of t.now)) (map number_of symbols))

-- It reads the longest front of the tokens. The value is the front's, and a fault says that it has none;
-- either way the rest is what follows the front. Want of memory says nothing.
abbrev pub Answers : {A : Type 0} → P A → List Token → Result A Stop → List Token → Type 0
Answers p ts (Ok v) rest = Reads units p ts v rest
Answers p ts (Err stop.Fault) rest = Fails units p ts rest
Answers p ts (Err stop.NoMemory) rest = Unit {0}

-- the same of a token, which stays where it is
abbrev pub Takes : List Symbol → List Token → Result (Bor Token) Stop → List Token → Type 0
Takes symbols ts (Ok t) rest = Reads units (token symbols) ts t.now rest
Takes symbols ts (Err stop.Fault) rest = Fails units (token symbols) ts rest
Takes symbols ts (Err stop.NoMemory) rest = ⊥
