-- What a unit is, its two limits, and the first syntax fault. Own.
use Rattle.std.specs.Prelude.{◌≡◌, ℕ, false, List, [], ◌∷◌, ◌++◌, ◌⊎◌, length, take, Result, Ok, Err}
use Rattle.mm_grammar.specs.Grammar.{name, Spells, Front}
use Rattle.mm_base.specs.declared.code.Code.{Code}
use Rattle.mm_base.specs.declared.code.TheConstants.Code.{Y1, Y2}
use Rattle.mm_base.specs.declared.limits.TheConstants.{MAX_TOKEN_RUN, MAX_NESTING}
use Rattle.mm_base.specs.declared.place.Place.{Place}
use Rattle.mm_token.specs.declared.token.Token.{Token}
use Rattle.mm_token.specs.declared.token.Tokens.{Tokens}
use Rattle.mm_syntax.specs.declared.decl.Decl.{Decl}
use Rattle.mm_syntax.specs.declared.decl.Unit.{Unit as UnitTree}
use Rattle.mm_syntax.specs.Rules.{units, unit}
use Rattle.mm_parse_expr.specs.Longest.{ends_count, place_of}
use Rattle.mm_parse_expr.specs.declared.ParseEnd.{ParseEnd}
use Rattle.mm_parse_expr.specs.declared.ParseEnd.TheVariants as end_is

-- how many statements may stand one inside the other
abbrev pub nesting : ℕ
nesting = MAX_NESTING

-- A unit may begin with these tokens, where so many statements may stand one inside the other.
abbrev pub IsFront : ℕ → List Token → Type 0
IsFront n tokens = Front units (name (unit n)) tokens

-- none of these is `;`, `{` or `}`
abbrev pub NoStops : List Token → Type 0
NoStops [] = Unit {0}
NoStops (t ∷ ts) = (ends_count t ≡ false) × NoStops ts

-- The token after these is past the limit: they end in so many of which none is `;`, `{` or `}`.
pub record IsPastCount (before : List Token) : Type 0 where
  pub first : List Token
  pub last : List Token
  pub cut : before ≡ first ++ last
  pub many : length last ≡ MAX_TOKEN_RUN
  pub none : NoStops last

-- no token is
abbrev pub KeepsCount : List Token → Type 0
KeepsCount tokens = (before after : List Token) (t : Token) → tokens ≡ before ++ t ∷ after → IsPastCount before → ⊥

-- The tokens are a unit of these declarations, within both limits.
pub record IsUnit (tokens : List Token) (decls : List Decl) : Type 0 where
  pub spelled : Spells units (name (unit nesting)) tokens decls
  pub counted : KeepsCount tokens

-- No unit goes on with the first of the tokens that are left, whatever the limit on nesting; or nothing is left, and what
-- was read is no unit.
abbrev pub EndsHere : List Token → List Token → Type 0
EndsHere front [] = (decls : List Decl) → Spells units (name (unit nesting)) front decls → ⊥
EndsHere front (t ∷ rest) = (n : ℕ) → IsFront n (front ++ t ∷ []) → ⊥

-- Y1: the first token with which no unit goes on, or the end. No token up to it is past a limit.
pub record IsNoUnit (tokens : List Token) (end : Place) (code : Code) (place : Place) : Type 0 where
  pub front : List Token
  pub rest : List Token
  pub cut : tokens ≡ front ++ rest
  pub is_front : IsFront nesting front
  pub counted : KeepsCount (front ++ take 1 rest)
  pub ends : EndsHere front rest
  pub code_is : code ≡ Y1
  pub place_is : place ≡ place_of rest end

-- The token after these begins a statement that stands in too many others: for some limit a unit goes on with it, but none
-- that keeps this one.
pub record IsTooDeep (front : List Token) (t : Token) : Type 0 where
  pub goes_on : (n : ℕ) × IsFront n (front ++ t ∷ [])
  pub too_deep : IsFront nesting (front ++ t ∷ []) → ⊥

-- Y2: the first token past a limit. A unit may begin with those before it.
pub record IsPastLimit (tokens : List Token) (code : Code) (place : Place) : Type 0 where
  pub front : List Token
  pub token : Token
  pub rest : List Token
  pub cut : tokens ≡ front ++ token ∷ rest
  pub is_front : IsFront nesting front
  pub counted : KeepsCount front
  pub past : IsPastCount front ⊎ IsTooDeep front token
  pub code_is : code ≡ Y2
  pub place_is : place ≡ token.place

-- The first syntax fault of the tokens is this one.
abbrev pub IsSyntaxFault : List Token → Place → Code → Place → Type 0
IsSyntaxFault tokens end code place = IsNoUnit tokens end code place ⊎ IsPastLimit tokens code place

-- The tree has these declarations, and the tokens' files.
pub record IsTreeOf (tokens : Tokens) (tree : UnitTree) : Type 0 where
  pub is_unit : IsUnit tokens.list tree.decls
  pub place_is : tree.place ≡ place_of tokens.list tokens.end
  pub files_are : tree.files ≡ tokens.files
  pub bytes_are : tree.bytes ≡ tokens.bytes

-- what `unit` answers
abbrev pub Parses : Tokens → Result UnitTree ParseEnd → Type 0
Parses tokens (Ok tree) = IsTreeOf tokens tree
Parses tokens (Err (end_is.Fault code place)) = IsSyntaxFault tokens.list tokens.end code place
Parses tokens (Err end_is.NoMemory) = Unit {0}

-- Tokens are the text of at most one unit, or have one first syntax fault, and never both.
pub record OneAnswer : Type 0 where
  pub one_unit : (tokens : List Token) (a b : List Decl) → IsUnit tokens a → IsUnit tokens b → a ≡ b
  pub one_fault : (tokens : List Token) (end : Place) (c d : Code) (p q : Place) → IsSyntaxFault tokens end c p → IsSyntaxFault tokens end d q → (c ≡ d) × (p ≡ q)
  pub not_both : (tokens : List Token) (decls : List Decl) (end : Place) (code : Code) (place : Place) → IsUnit tokens decls → IsSyntaxFault tokens end code place → ⊥
