-- What the parts of the parser say of a unit's tokens. Own.
use Rattle.std.specs.Prelude.{◌≡◌, ℕ, suc, ◌^◌, ◌<◌, ◌≤◌, Bool, true, false, List, [], ◌∷◌, ◌++◌, length, take, map}
use Rattle.mm_grammar.specs.Grammar.{has, name, Spells, Stuck}
use Rattle.mm_base.specs.declared.limits.TheConstants.{MAX_UNIT_BYTES}
use Rattle.mm_base.specs.declared.place.Place.{Place}
use Rattle.mm_token.specs.declared.token.Token.{Token}
use Rattle.mm_token.specs.declared.token.Tokens.{Tokens}
use Rattle.mm_syntax.specs.declared.symbol.Symbol.{Symbol}
use Rattle.mm_syntax.specs.declared.symbol.Symbol.TheVariants as k
use Rattle.mm_syntax.specs.Symbols.{symbol_of, number_of}
use Rattle.mm_syntax.specs.declared.decl.Decl.{Decl}
use Rattle.mm_syntax.specs.declared.decl.Unit.{Unit as UnitTree}
use Rattle.mm_syntax.specs.Rules.{units, unit}
use Rattle.mm_parse_expr.specs.Longest.{place_of}
use Rattle.mm_parse_expr.specs.declared.ParseEnd.{ParseEnd}
use Rattle.mm_parse_expr.specs.declared.ParseEnd.TheVariants as end_is
use Rattle.mm_parse_unit.specs.Units.{nesting, IsFront, IsPastCount, KeepsCount, IsSyntaxFault}

-- the first tokens of declarations: ISO/IEC 14882:1998, 7 and 9
abbrev pub begin_decl : List Symbol
begin_decl = k.ClassKey ∷ k.StructKey ∷ k.Void ∷ k.Bool ∷ k.Int ∷ k.Unsigned ∷ k.Class ∷ []

-- whether the first token is one of these
abbrev pub begins : List Symbol → List Token → Bool
begins symbols [] = false
begins symbols (t ∷ ts) = has (number_of (symbol_of t)) (map number_of symbols)

-- The tokens before the index are within the limit on their count, and one at the index isn't.
pub record IsFirstPast (tokens : List Token) (at : ℕ) : Type 0 where
  pub within : at ≤ length tokens
  pub counted : KeepsCount (take at tokens)
  pub past : at < length tokens → IsPastCount (take at tokens)

-- So many tokens are left after the longest front of a unit within the limit on nesting.
pub record IsReading (tokens : List Token) (left : ℕ) : Type 0 where
  pub front : List Token
  pub rest : List Token
  pub cut : tokens ≡ front ++ rest
  pub is_front : IsFront nesting front
  pub stuck : Stuck units (name (unit nesting)) front rest
  pub left_is : left ≡ length rest

-- The tokens are no unit.
abbrev pub IsNoText : List Token → Type 0
IsNoText tokens = (decls : List Decl) → Spells units (name (unit nesting)) tokens decls → ⊥

-- A unit may begin with the tokens before the index, but none that keeps the limit on nesting goes on with the one at it.
-- None of them is past the limit on their count.
pub record StopsBefore (tokens : List Token) (at : ℕ) : Type 0 where
  pub is_front : IsFront nesting (take at tokens)
  pub stuck : IsFront nesting (take (suc at) tokens) → ⊥
  pub counted : KeepsCount (take (suc at) tokens)

-- so many statements as no unit has one inside the other: there are as many bytes in the longest
abbrev pub unlimited : ℕ
unlimited = MAX_UNIT_BYTES

-- whether a unit may begin with the tokens, where so many statements may stand one inside the other
abbrev pub GoesOn : List Token → Bool → Type 0
GoesOn tokens true = IsFront unlimited tokens
GoesOn tokens false = IsFront unlimited tokens → ⊥

-- The fault is the first one, or there was no memory to tell.
abbrev pub Faults : List Token → Place → ParseEnd → Type 0
Faults tokens end (end_is.Fault code place) = IsSyntaxFault tokens end code place
Faults tokens end end_is.NoMemory = Unit {0}

-- the tree of these declarations and the tokens' files
abbrev pub unit_of : Tokens → List Decl → UnitTree
unit_of tokens decls = record { decls = decls; place = place_of tokens.list tokens.end; files = tokens.files; bytes = tokens.bytes }
