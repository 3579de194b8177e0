-- Each word and mark of the grammar has one text.
use Rattle.std.proofs.Common.{◌≡◌, ℕ, Bool, true, false, if◌then◌else◌, IsTrue, List, [], ◌∷◌, ◌⊎◌, inl, inr, map, refl, ◌∙◌, subst}
use Rattle.std.specs.Prelude.{codes}
use Rattle.std.specs.Str.{bytes_eq}
use Rattle.std.proofs.lemmas.Slice.Eq.{bytes_eq-Decides}
use Rattle.mm_grammar.specs.Grammar.{has}
use Rattle.mm_token.specs.declared.token.Kind.{Kind}
use Rattle.mm_token.specs.declared.token.Kind.TheVariants as kind
use Rattle.mm_token.specs.declared.token.Token.{Token}
use Rattle.mm_syntax.specs.declared.symbol.Symbol.{Symbol}
use Rattle.mm_syntax.specs.declared.symbol.Symbol.TheVariants as k
use Rattle.mm_syntax.specs.Symbols.{keys, marks, look, symbol_for, symbol_of, number_of}
use Rattle.mm_syntax.specs.Built.{indirection_for, unary_for, step_for, binary_for, assign_for, member_for}
use Rattle.mm_syntax.specs.Rules.{assigning, prefixes}
use Rattle.mm_syntax.specs.First.{mark_spelling, unary_spelling, step_spelling, binary_spelling, assign_spelling, member_spelling}
use Rattle.mm_syntax.specs.Spelled.{linking, OperatorsAreSpelled}

-- the text of a word or mark
abbrev pub text_of : Symbol → List ℕ
text_of k.Bool = codes "bool"
text_of k.Break = codes "break"
text_of k.ClassKey = codes "class"
text_of k.Continue = codes "continue"
text_of k.Do = codes "do"
text_of k.DynamicCast = codes "dynamic_cast"
text_of k.Else = codes "else"
text_of k.False = codes "false"
text_of k.For = codes "for"
text_of k.If = codes "if"
text_of k.Int = codes "int"
text_of k.New = codes "new"
text_of k.Private = codes "private"
text_of k.Protected = codes "protected"
text_of k.Public = codes "public"
text_of k.Return = codes "return"
text_of k.StructKey = codes "struct"
text_of k.This = codes "this"
text_of k.True = codes "true"
text_of k.Unsigned = codes "unsigned"
text_of k.Virtual = codes "virtual"
text_of k.Void = codes "void"
text_of k.While = codes "while"
text_of k.OpenBrace = codes "{"
text_of k.CloseBrace = codes "}"
text_of k.Open = codes "("
text_of k.Close = codes ")"
text_of k.Semicolon = codes ";"
text_of k.Colon = codes ":"
text_of k.Scope = codes "::"
text_of k.Comma = codes ","
text_of k.Dot = codes "."
text_of k.Arrow = codes "->"
text_of k.Tilde = codes "~"
text_of k.Assign = codes "="
text_of k.Plus = codes "+"
text_of k.Minus = codes "-"
text_of k.Star = codes "*"
text_of k.Slash = codes "/"
text_of k.Percent = codes "%"
text_of k.Not = codes "!"
text_of k.And = codes "&"
text_of k.Less = codes "<"
text_of k.Greater = codes ">"
text_of k.LessEqual = codes "<="
text_of k.GreaterEqual = codes ">="
text_of k.EqualEqual = codes "=="
text_of k.NotEqual = codes "!="
text_of k.AndAnd = codes "&&"
text_of k.OrOr = codes "||"
text_of k.Question = codes "?"
text_of k.PlusAssign = codes "+="
text_of k.MinusAssign = codes "-="
text_of k.StarAssign = codes "*="
text_of k.SlashAssign = codes "/="
text_of k.PercentAssign = codes "%="
text_of k.PlusPlus = codes "++"
text_of k.MinusMinus = codes "--"
text_of _ = []

-- the symbols that have one
abbrev pub HasText : Symbol → Type 0
HasText k.Word = ⊥
HasText k.Class = ⊥
HasText k.Number = ⊥
HasText k.Other = ⊥
HasText _ = Unit {0}

abbrev AllAre : List (List ℕ × Symbol) → Type 0
AllAre [] = Unit {0}
AllAre (e ∷ es) = (e.0 ≡ text_of e.1) × AllAre es

equal_of : (a b : List ℕ) → bytes_eq a b ≡ true → a ≡ b
equal_of a b e = (bytes_eq-Decides a b).0 e

looked : (es : List (List ℕ × Symbol)) → AllAre es → (text : List ℕ) → (look es text ≡ k.Other) ⊎ (text ≡ text_of (look es text))
looked [] h text = inl refl
looked (e ∷ es) h text = by (bytes_eq text e.0) refl (looked es h.1 text)
  where
    by : (b : Bool) → bytes_eq text e.0 ≡ b → (look es text ≡ k.Other) ⊎ (text ≡ text_of (look es text)) →
        ((if b then e.1 else look es text) ≡ k.Other) ⊎ (text ≡ text_of (if b then e.1 else look es text))
    by true i r = inr (equal_of text e.0 i ∙ h.0)
    by false i r = r

all_keys : AllAre keys
all_keys = (refl, (refl, (refl, (refl, (refl, (refl, (refl, (refl, (refl, (refl, (refl, (refl, (refl, (refl, (refl, (refl, (refl, (refl, (refl, (refl, (refl, (refl, (refl, tt)))))))))))))))))))))))

all_marks : AllAre marks
all_marks = (refl, (refl, (refl, (refl, (refl, (refl, (refl, (refl, (refl, (refl, (refl, (refl, (refl, (refl, (refl, (refl, (refl, (refl, (refl, (refl, (refl, (refl, (refl, (refl, (refl, (refl, (refl, (refl, (refl, (refl, (refl, (refl, (refl, (refl, (refl, tt)))))))))))))))))))))))))))))))))))

not_other : (s : Symbol) → s ≡ k.Other → HasText s → ⊥
not_other s e h = subst HasText e h

found : (s : Symbol) (text : List ℕ) → (s ≡ k.Other) ⊎ (text ≡ text_of s) → HasText s → text ≡ text_of s
found s text (inl e) h = absurd (not_other s e h)
found s text (inr e) h = e

spelled_for : (kind : Kind) (text : List ℕ) → HasText (symbol_for kind text) → text ≡ text_of (symbol_for kind text)
spelled_for kind.Word text h = absurd h
spelled_for kind.Class text h = absurd h
spelled_for kind.Number text h = absurd h
spelled_for kind.Key text h = found (look keys text) text (looked keys all_keys text) h
spelled_for kind.Mark text h = found (look marks text) text (looked marks all_marks text) h

-- a token that is a word or mark has its text
pub spelled : (t : Token) → HasText (symbol_of t) → t.text ≡ text_of (symbol_of t)
spelled t h = spelled_for t.kind t.text h

-- ---- operators

abbrev pub Among : List Symbol → Symbol → Type 0
Among symbols s = IsTrue (has (number_of s) (map number_of symbols))

mark_spelled : (s : Symbol) → Among (k.Star ∷ k.And ∷ []) s → HasText s × (text_of s ≡ mark_spelling (indirection_for s))
mark_spelled k.Star h = (tt, refl)
mark_spelled k.And h = (tt, refl)
mark_spelled _ h = absurd (cc)

unary_spelled : (s : Symbol) → Among prefixes s → HasText s × (text_of s ≡ unary_spelling (unary_for s))
unary_spelled k.Plus h = (tt, refl)
unary_spelled k.Minus h = (tt, refl)
unary_spelled k.Not h = (tt, refl)
unary_spelled k.Star h = (tt, refl)
unary_spelled k.And h = (tt, refl)
unary_spelled k.PlusPlus h = (tt, refl)
unary_spelled k.MinusMinus h = (tt, refl)
unary_spelled _ h = absurd (cc)

step_spelled : (s : Symbol) → Among (k.PlusPlus ∷ k.MinusMinus ∷ []) s → HasText s × (text_of s ≡ step_spelling (step_for s))
step_spelled k.PlusPlus h = (tt, refl)
step_spelled k.MinusMinus h = (tt, refl)
step_spelled _ h = absurd (cc)

binary_spelled : (s : Symbol) → Among linking s → HasText s × (text_of s ≡ binary_spelling (binary_for s))
binary_spelled k.OrOr h = (tt, refl)
binary_spelled k.AndAnd h = (tt, refl)
binary_spelled k.EqualEqual h = (tt, refl)
binary_spelled k.NotEqual h = (tt, refl)
binary_spelled k.Less h = (tt, refl)
binary_spelled k.Greater h = (tt, refl)
binary_spelled k.LessEqual h = (tt, refl)
binary_spelled k.GreaterEqual h = (tt, refl)
binary_spelled k.Plus h = (tt, refl)
binary_spelled k.Minus h = (tt, refl)
binary_spelled k.Star h = (tt, refl)
binary_spelled k.Slash h = (tt, refl)
binary_spelled k.Percent h = (tt, refl)
binary_spelled _ h = absurd (cc)

assign_spelled : (s : Symbol) → Among assigning s → HasText s × (text_of s ≡ assign_spelling (assign_for s))
assign_spelled k.Assign h = (tt, refl)
assign_spelled k.PlusAssign h = (tt, refl)
assign_spelled k.MinusAssign h = (tt, refl)
assign_spelled k.StarAssign h = (tt, refl)
assign_spelled k.SlashAssign h = (tt, refl)
assign_spelled k.PercentAssign h = (tt, refl)
assign_spelled _ h = absurd (cc)

member_spelled : (s : Symbol) → Among (k.Dot ∷ k.Arrow ∷ []) s → HasText s × (text_of s ≡ member_spelling (member_for s))
member_spelled k.Dot h = (tt, refl)
member_spelled k.Arrow h = (tt, refl)
member_spelled _ h = absurd (cc)

by_symbol : (t : Token) (text : List ℕ) → HasText (symbol_of t) × (text_of (symbol_of t) ≡ text) → t.text ≡ text
by_symbol t text h = spelled t h.0 ∙ h.1

pub operators_are_spelled : OperatorsAreSpelled
operators_are_spelled = record {
  mark = λ t h. by_symbol t _ (mark_spelled (symbol_of t) h);
  unary = λ t h. by_symbol t _ (unary_spelled (symbol_of t) h);
  step = λ t h. by_symbol t _ (step_spelled (symbol_of t) h);
  binary = λ t h. by_symbol t _ (binary_spelled (symbol_of t) h);
  assign = λ t h. by_symbol t _ (assign_spelled (symbol_of t) h);
  member = λ t h. by_symbol t _ (member_spelled (symbol_of t) h);
}
