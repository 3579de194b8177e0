-- The parts of the grammar of variables that functions of their own read, their trees, and how a declaration of
-- variables is told from an expression. ISO/IEC 14882:1998, 6.2, 6.7, 6.8 and 8.
use Rattle.std.specs.Prelude.{Bool, false, not, ◌||◌, ◌&&◌, List, [], ◌∷◌, map}
use Rattle.mm_grammar.specs.Grammar.{name, seq, many, give, has}
use Rattle.mm_token.specs.declared.token.Token.{Token}
use Rattle.mm_syntax.specs.declared.symbol.Symbol.{Symbol}
use Rattle.mm_syntax.specs.declared.symbol.Symbol.TheVariants as k
use Rattle.mm_syntax.specs.declared.expr.Expr.{Expr}
use Rattle.mm_syntax.specs.declared.part.Begun.{Begun}
use Rattle.mm_syntax.specs.declared.stmt.Declarator.{Declarator}
use Rattle.mm_syntax.specs.declared.stmt.Variables.{Variables}
use Rattle.mm_syntax.specs.declared.stmt.Initializer.{Initializer}
use Rattle.mm_syntax.specs.declared.stmt.Initializer.TheVariants as initializer
use Rattle.mm_syntax.specs.declared.stmt.ForStart.{ForStart}
use Rattle.mm_syntax.specs.declared.stmt.ForStart.TheVariants as start
use Rattle.mm_syntax.specs.Symbols.{symbol_of, number_of}
use Rattle.mm_syntax.specs.Rules.{P, token, declarator, next_declarator, ◌◂◌}

-- the declarators after this one, and it before them
abbrev pub following : Declarator → P (List Declarator)
following first = give (λ vs. first ∷ vs) (many next_declarator)

-- declarators with a comma between each two, and `;`
abbrev pub declarators : P (List Declarator)
declarators = give (λ v. v.0 ∷ v.1) (seq (name declarator) (many next_declarator ◂ token (k.Semicolon ∷ [])))

abbrev pub value_of : Begun → Initializer
value_of v = initializer.Value v.tree

abbrev pub arguments_of : List Expr → Initializer
arguments_of xs = initializer.Arguments xs

abbrev pub expr_first : Begun → ForStart
expr_first v = start.Expr v.tree

abbrev pub variables_first : Variables → ForStart
variables_first v = start.Variables v

-- The token is one of these.
abbrev pub is_among : List Symbol → Token → Bool
is_among symbols t = has (number_of (symbol_of t)) (map number_of symbols)

abbrev pub begins_scope : List Token → Bool
begins_scope [] = false
begins_scope (t ∷ ts) = is_among (k.Scope ∷ []) t

-- the types that are words
abbrev pub type_words : List Symbol
type_words = k.Void ∷ k.Bool ∷ k.Int ∷ k.Unsigned ∷ []

-- Whether the tokens are read as a declaration of variables: where the first is a type that is a word, or a class
-- without `::` after it.
abbrev pub begins_variables : List Token → Bool
begins_variables [] = false
begins_variables (t ∷ ts) = is_among type_words t || (is_among (k.Class ∷ []) t && not (begins_scope ts))
