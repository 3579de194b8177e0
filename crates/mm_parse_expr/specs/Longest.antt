-- The longest front of an expression, the limit on its tokens, and what the parser answers by them. Own.
use Rattle.std.specs.Prelude.{◌≡◌, ℕ, suc, ◌+◌, ◌-◌, ◌<◌, ◌≤◌, Bool, if◌then◌else◌, List, [], ◌∷◌, ◌++◌, ◌⊎◌, length, take, drop, map, Result, Ok, Err}
use Rattle.mm_grammar.specs.Grammar.{name, has, Spells, Front}
use Rattle.mm_base.specs.declared.code.Code.{Code}
use Rattle.mm_base.specs.declared.code.TheConstants.Code.{Y1, Y2}
use Rattle.mm_base.specs.declared.limits.TheConstants.{MAX_TOKEN_RUN}
use Rattle.mm_base.specs.declared.place.Place.{Place}
use Rattle.mm_token.specs.declared.token.Token.{Token}
use Rattle.mm_syntax.specs.declared.symbol.Symbol.TheVariants as k
use Rattle.mm_syntax.specs.declared.expr.Expr.{Expr}
use Rattle.mm_syntax.specs.declared.part.Begun.{Begun}
use Rattle.mm_syntax.specs.Symbols.{symbol_of, number_of}
use Rattle.mm_syntax.specs.Rules.{units, expr}
use Rattle.mm_parse_expr.specs.declared.ParseEnd.{ParseEnd}
use Rattle.mm_parse_expr.specs.declared.ParseEnd.TheVariants as end_is

-- The tokens begin with this front of an expression, which rest follows, and with no longer one.
pub record IsLongestFront (tokens front rest : List Token) : Type 0 where
  pub cut : tokens ≡ front ++ rest
  pub is_front : Front units (name expr) front
  pub longest : (other more : List Token) → Front units (name expr) other → tokens ≡ other ++ more → length other ≤ length front

-- an expression with this tree
abbrev pub IsExpr : List Token → Begun → Type 0
IsExpr tokens tree = Spells units (name expr) tokens tree

abbrev pub IsNoExpr : List Token → Type 0
IsNoExpr tokens = (tree : Begun) → IsExpr tokens tree → ⊥

-- ---- the limit

-- `;`, `{` or `}`
abbrev pub ends_count : Token → Bool
ends_count t = has (number_of (symbol_of t)) (map number_of (k.Semicolon ∷ k.OpenBrace ∷ k.CloseBrace ∷ []))

-- how many tokens of the list follow its last `;`, `{` or `}`, with n where there is none of these and n stood before
abbrev pub count_from : ℕ → List Token → ℕ
count_from n [] = n
count_from n (t ∷ ts) = count_from (if ends_count t then 0 else suc n) ts

-- how many tokens may follow these before the next one is past the limit
abbrev pub room_after : List Token → ℕ
room_after before = MAX_TOKEN_RUN - count_from 0 before

-- ---- what the parser answers

-- the place of the first token, or of the end
abbrev pub place_of : List Token → Place → Place
place_of [] end = end
place_of (t ∷ ts) end = t.place

-- After this many tokens stands one at this place.
abbrev pub IsPlaceAt : List Token → ℕ → Place → Type 0
IsPlaceAt tokens n place = (before : List Token) × (t : Token) × (after : List Token) × (tokens ≡ before ++ t ∷ after) × (length before ≡ n) × (place ≡ t.place)

-- The longest front is no expression; it and the token after it, at which the fault is, are within the limit.
abbrev pub IsNotExpr : List Token → ℕ → Place → Code → Place → Type 0
IsNotExpr tokens room end code place = (front : List Token) × (rest : List Token) × IsLongestFront tokens front rest × IsNoExpr front × (length front + length (take 1 rest) ≤ room) × (code ≡ Y1) × (place ≡ place_of rest end)

-- The first token past the limit is in a front of an expression; or it follows the longest front, which is no expression.
abbrev pub IsTooLong : List Token → ℕ → Code → Place → Type 0
IsTooLong tokens room code place = (code ≡ Y2) × IsPlaceAt tokens room place ×
    (((front : List Token) × (more : List Token) × (tokens ≡ front ++ more) × Front units (name expr) front × (room < length front))
    ⊎ ((front : List Token) × (rest : List Token) × IsLongestFront tokens front rest × IsNoExpr front × (length front ≡ room)))

-- Where the longest front is an expression within the limit, its tree and the index after it. Else the fault.
abbrev pub ParsesFrom : List Token → ℕ → Place → ℕ → Result (Expr × ℕ) ParseEnd → Type 0
ParsesFrom tokens room end at (Ok v) = (front : List Token) × (rest : List Token) × (start : Place) × IsLongestFront tokens front rest × IsExpr front (record { tree = v.0; start = start }) × (length front ≤ room) × (v.1 ≡ at + length front)
ParsesFrom tokens room end at (Err (end_is.Fault code place)) = IsNotExpr tokens room end code place ⊎ IsTooLong tokens room code place
ParsesFrom tokens room end at (Err end_is.NoMemory) = Unit {0}

-- the same of the tokens of a unit from an index on
abbrev pub Parses : List Token → Place → ℕ → Result (Expr × ℕ) ParseEnd → Type 0
Parses tokens end at result = ParsesFrom (drop at tokens) (room_after (take at tokens)) end at result

-- Tokens are the text of at most one expression.
abbrev pub OneTree : Type 0
OneTree = (tokens : List Token) (a b : Begun) → IsExpr tokens a → IsExpr tokens b → a ≡ b
