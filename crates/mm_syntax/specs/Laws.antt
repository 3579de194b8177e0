-- What holds of the grammar as a whole. Own.
use Rattle.std.specs.Prelude.{◌≡◌, List}
use Rattle.mm_grammar.specs.Grammar.{name, Spells}
use Rattle.mm_token.specs.declared.token.Token.{Token}
use Rattle.mm_syntax.specs.Rules.{Rule, Value, units}

-- Tokens are a text of each rule with at most one value, and so with one tree.
abbrev pub OneTree : Type 0
OneTree = (x : Rule) (tokens : List Token) (a b : Value x) → Spells units (name x) tokens a → Spells units (name x) tokens b → a ≡ b
