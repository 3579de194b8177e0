-- The words and marks of the grammar, and which of them a token is. The marks are those of ISO/IEC 14882:1998, 2.12,
-- that the grammar has; the words are its keywords of 2.11.
use Rattle.std.specs.Prelude.{ℕ, List, [], ◌∷◌, codes, if◌then◌else◌}
use Rattle.std.specs.Str.{bytes_eq}
use Rattle.mm_token.specs.declared.token.Kind.TheVariants as kind
use Rattle.mm_token.specs.declared.token.Kind.{Kind}
use Rattle.mm_token.specs.declared.token.Token.{Token}
use Rattle.mm_syntax.specs.declared.symbol.Symbol.{Symbol}
use Rattle.mm_syntax.specs.declared.symbol.Symbol.TheVariants as k

-- each reserved word that the grammar has
abbrev pub keys : List (List ℕ × Symbol)
keys =
    (codes "bool", k.Bool) ∷
    (codes "break", k.Break) ∷
    (codes "class", k.ClassKey) ∷
    (codes "continue", k.Continue) ∷
    (codes "do", k.Do) ∷
    (codes "dynamic_cast", k.DynamicCast) ∷
    (codes "else", k.Else) ∷
    (codes "false", k.False) ∷
    (codes "for", k.For) ∷
    (codes "if", k.If) ∷
    (codes "int", k.Int) ∷
    (codes "new", k.New) ∷
    (codes "private", k.Private) ∷
    (codes "protected", k.Protected) ∷
    (codes "public", k.Public) ∷
    (codes "return", k.Return) ∷
    (codes "struct", k.StructKey) ∷
    (codes "this", k.This) ∷
    (codes "true", k.True) ∷
    (codes "unsigned", k.Unsigned) ∷
    (codes "virtual", k.Virtual) ∷
    (codes "void", k.Void) ∷
    (codes "while", k.While) ∷
    []

-- each mark
abbrev pub marks : List (List ℕ × Symbol)
marks =
    (codes "{", k.OpenBrace) ∷
    (codes "}", k.CloseBrace) ∷
    (codes "(", k.Open) ∷
    (codes ")", k.Close) ∷
    (codes ";", k.Semicolon) ∷
    (codes ":", k.Colon) ∷
    (codes "::", k.Scope) ∷
    (codes ",", k.Comma) ∷
    (codes ".", k.Dot) ∷
    (codes "->", k.Arrow) ∷
    (codes "~", k.Tilde) ∷
    (codes "=", k.Assign) ∷
    (codes "+", k.Plus) ∷
    (codes "-", k.Minus) ∷
    (codes "*", k.Star) ∷
    (codes "/", k.Slash) ∷
    (codes "%", k.Percent) ∷
    (codes "!", k.Not) ∷
    (codes "&", k.And) ∷
    (codes "<", k.Less) ∷
    (codes ">", k.Greater) ∷
    (codes "<=", k.LessEqual) ∷
    (codes ">=", k.GreaterEqual) ∷
    (codes "==", k.EqualEqual) ∷
    (codes "!=", k.NotEqual) ∷
    (codes "&&", k.AndAnd) ∷
    (codes "||", k.OrOr) ∷
    (codes "?", k.Question) ∷
    (codes "+=", k.PlusAssign) ∷
    (codes "-=", k.MinusAssign) ∷
    (codes "*=", k.StarAssign) ∷
    (codes "/=", k.SlashAssign) ∷
    (codes "%=", k.PercentAssign) ∷
    (codes "++", k.PlusPlus) ∷
    (codes "--", k.MinusMinus) ∷
    []

-- the symbol beside this text
abbrev pub look : List (List ℕ × Symbol) → List ℕ → Symbol
look [] text = k.Other
look (entry ∷ more) text = if bytes_eq text entry.0 then entry.1 else look more text

abbrev pub key_of : List ℕ → Symbol
key_of = look keys

abbrev pub mark_of : List ℕ → Symbol
mark_of = look marks

-- the symbol of a token of this kind with this text
abbrev pub symbol_for : Kind → List ℕ → Symbol
symbol_for kind.Word text = k.Word
symbol_for kind.Class text = k.Class
symbol_for kind.Number text = k.Number
symbol_for kind.Key text = key_of text
symbol_for kind.Mark text = mark_of text

abbrev pub symbol_of : Token → Symbol
symbol_of t = symbol_for t.kind t.text

-- symbols as numbers, by which the parts of rules name them
abbrev pub number_of : Symbol → ℕ
number_of k.Word = 0
number_of k.Class = 1
number_of k.Number = 2
number_of k.Bool = 3
number_of k.Break = 4
number_of k.ClassKey = 5
number_of k.Continue = 6
number_of k.Do = 7
number_of k.DynamicCast = 8
number_of k.Else = 9
number_of k.False = 10
number_of k.For = 11
number_of k.If = 12
number_of k.Int = 13
number_of k.New = 14
number_of k.Private = 15
number_of k.Protected = 16
number_of k.Public = 17
number_of k.Return = 18
number_of k.StructKey = 19
number_of k.This = 20
number_of k.True = 21
number_of k.Unsigned = 22
number_of k.Virtual = 23
number_of k.Void = 24
number_of k.While = 25
number_of k.OpenBrace = 26
number_of k.CloseBrace = 27
number_of k.Open = 28
number_of k.Close = 29
number_of k.Semicolon = 30
number_of k.Colon = 31
number_of k.Scope = 32
number_of k.Comma = 33
number_of k.Dot = 34
number_of k.Arrow = 35
number_of k.Tilde = 36
number_of k.Assign = 37
number_of k.Plus = 38
number_of k.Minus = 39
number_of k.Star = 40
number_of k.Slash = 41
number_of k.Percent = 42
number_of k.Not = 43
number_of k.And = 44
number_of k.Less = 45
number_of k.Greater = 46
number_of k.LessEqual = 47
number_of k.GreaterEqual = 48
number_of k.EqualEqual = 49
number_of k.NotEqual = 50
number_of k.AndAnd = 51
number_of k.OrOr = 52
number_of k.Question = 53
number_of k.PlusAssign = 54
number_of k.MinusAssign = 55
number_of k.StarAssign = 56
number_of k.SlashAssign = 57
number_of k.PercentAssign = 58
number_of k.PlusPlus = 59
number_of k.MinusMinus = 60
number_of k.Other = 61
