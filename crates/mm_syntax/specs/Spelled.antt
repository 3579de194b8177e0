-- The texts of trees are those of the tokens that spell them. Own.
use Rattle.std.specs.Prelude.{◌≡◌, IsTrue, List, [], ◌∷◌, ◌++◌, map}
use Rattle.mm_grammar.specs.Grammar.{has, name, Spells}
use Rattle.mm_token.specs.declared.token.Token.{Token}
use Rattle.mm_syntax.specs.declared.symbol.Symbol.{Symbol}
use Rattle.mm_syntax.specs.declared.symbol.Symbol.TheVariants as k
use Rattle.mm_syntax.specs.declared.part.Begun.{Begun}
use Rattle.mm_syntax.specs.Symbols.{symbol_of, number_of}
use Rattle.mm_syntax.specs.Built.{indirection_for, unary_for, step_for, binary_for, assign_for, member_for}
use Rattle.mm_syntax.specs.Rules.{units, expr, assigning, prefixes}
use Rattle.mm_syntax.specs.View.{expr_view}
use Rattle.mm_syntax.specs.First.{mark_spelling, unary_spelling, step_spelling, binary_spelling, assign_spelling, member_spelling, first_text}

-- The token is one of these.
abbrev pub IsOneOf : List Symbol → Token → Type 0
IsOneOf symbols t = IsTrue (has (number_of (symbol_of t)) (map number_of symbols))

-- the operators between two operands, but for those that assign
abbrev pub linking : List Symbol
linking =
    k.OrOr ∷ k.AndAnd ∷ k.EqualEqual ∷ k.NotEqual ∷ k.Less ∷ k.Greater ∷ k.LessEqual ∷ k.GreaterEqual ∷
    k.Plus ∷ k.Minus ∷ k.Star ∷ k.Slash ∷ k.Percent ∷ []

-- An operator is spelled as the token is that it was read from.
pub record OperatorsAreSpelled : Type 0 where
  pub mark : (t : Token) → IsOneOf (k.Star ∷ k.And ∷ []) t → t.text ≡ mark_spelling (indirection_for (symbol_of t))
  pub unary : (t : Token) → IsOneOf prefixes t → t.text ≡ unary_spelling (unary_for (symbol_of t))
  pub step : (t : Token) → IsOneOf (k.PlusPlus ∷ k.MinusMinus ∷ []) t → t.text ≡ step_spelling (step_for (symbol_of t))
  pub binary : (t : Token) → IsOneOf linking t → t.text ≡ binary_spelling (binary_for (symbol_of t))
  pub assign : (t : Token) → IsOneOf assigning t → t.text ≡ assign_spelling (assign_for (symbol_of t))
  pub member : (t : Token) → IsOneOf (k.Dot ∷ k.Arrow ∷ []) t → t.text ≡ member_spelling (member_for (symbol_of t))

-- no two tokens stand at one place
abbrev pub AreApart : List Token → Type 0
AreApart tokens = (first between last : List Token) (t u : Token) → tokens ≡ first ++ t ∷ (between ++ u ∷ last) → t.place ≡ u.place → ⊥

-- Where a tree was read from such tokens, one of them stands at its place, and has the text that is its first.
abbrev pub FirstIsSpelled : Type 0
FirstIsSpelled = (tokens : List Token) (v : Begun) → Spells units (name expr) tokens v → AreApart tokens →
    (before : List Token) × (t : Token) × (after : List Token) × (tokens ≡ before ++ t ∷ after) × (t.place ≡ v.tree.place) × (t.text ≡ first_text (expr_view v.tree))
