-- What a word, a number and a directive are.
use Rattle.std.specs.Prelude.{ℕ, ◌+◌, ◌-◌, ◌^◌, Bool, true, false, not, ◌&&◌, ◌||◌, ◌==◌, if◌then◌else◌, List, [], ◌∷◌, length, take, drop, slice_index, nat_le, nat_lt, codes, Option, Some, None, is_some, position}
use Rattle.std.specs.List.{list_all, list_any}
use Rattle.std.specs.Str.{bytes_eq}
use Rattle.std.specs.Str.Parse.{digits_value}
use Rattle.mm_token.specs.Characters.{is_blank, is_digit, is_text}

-- ---- words

-- whether a text is one of these
abbrev pub is_among : List ℕ → List (List ℕ) → Bool
is_among text texts = list_any (λ t. bytes_eq t text) texts

-- the 63 keywords and the eleven alternative words (ISO/IEC 14882:1998, 2.11)
abbrev pub keywords : List (List ℕ)
keywords =
    codes "asm" ∷ codes "auto" ∷ codes "bool" ∷ codes "break" ∷ codes "case" ∷ codes "catch" ∷ codes "char" ∷ codes "class" ∷
    codes "const" ∷ codes "const_cast" ∷ codes "continue" ∷ codes "default" ∷ codes "delete" ∷ codes "do" ∷ codes "double" ∷
    codes "dynamic_cast" ∷ codes "else" ∷ codes "enum" ∷ codes "explicit" ∷ codes "export" ∷ codes "extern" ∷ codes "false" ∷
    codes "float" ∷ codes "for" ∷ codes "friend" ∷ codes "goto" ∷ codes "if" ∷ codes "inline" ∷ codes "int" ∷ codes "long" ∷
    codes "mutable" ∷ codes "namespace" ∷ codes "new" ∷ codes "operator" ∷ codes "private" ∷ codes "protected" ∷ codes "public" ∷
    codes "register" ∷ codes "reinterpret_cast" ∷ codes "return" ∷ codes "short" ∷ codes "signed" ∷ codes "sizeof" ∷ codes "static" ∷
    codes "static_cast" ∷ codes "struct" ∷ codes "switch" ∷ codes "template" ∷ codes "this" ∷ codes "throw" ∷ codes "true" ∷
    codes "try" ∷ codes "typedef" ∷ codes "typeid" ∷ codes "typename" ∷ codes "union" ∷ codes "unsigned" ∷ codes "using" ∷
    codes "virtual" ∷ codes "void" ∷ codes "volatile" ∷ codes "wchar_t" ∷ codes "while" ∷
    codes "and" ∷ codes "and_eq" ∷ codes "bitand" ∷ codes "bitor" ∷ codes "compl" ∷ codes "not" ∷ codes "not_eq" ∷ codes "or" ∷
    codes "or_eq" ∷ codes "xor" ∷ codes "xor_eq" ∷ []

-- whether a word is reserved
unfoldable pub is_keyword : List ℕ → Bool
is_keyword word = is_among word keywords

-- whether a word says that the next one is a class name (9.1)
unfoldable pub begins_class : List ℕ → Bool
begins_class word = bytes_eq word (codes "class") || bytes_eq word (codes "struct")

-- ---- numbers (2.13.1, decimal literals alone)

-- u or U
abbrev pub is_suffix : ℕ → Bool
is_suffix c = c == 117 || c == 85

abbrev pub has_suffix : List ℕ → Bool
has_suffix cs = is_suffix (slice_index cs (length cs - 1))

-- a number without its suffix
abbrev pub digits_of : List ℕ → List ℕ
digits_of cs = if has_suffix cs then take (length cs - 1) cs else cs

-- 0, or digits that don't begin with 0
abbrev pub is_decimal : List ℕ → Bool
is_decimal ds = list_all is_digit ds && not (slice_index ds 0 == 48 && nat_lt 1 (length ds))

-- a number is such digits, with at most one suffix
abbrev pub is_number : List ℕ → Bool
is_number cs = is_decimal (digits_of cs)

abbrev pub value_of : List ℕ → ℕ
value_of cs = digits_value 10 (digits_of cs)

-- the greatest value: that of an int, and with a suffix that of an unsigned
abbrev pub greatest_of : List ℕ → ℕ
greatest_of cs = if has_suffix cs then 2 ^ 32 - 1 else 2 ^ 31 - 1

abbrev pub is_in_range : List ℕ → Bool
is_in_range cs = nat_le (value_of cs) (greatest_of cs)

-- ---- directives (clause 16; own, of these two alone)

-- what stands behind the white space at the front
abbrev pub past_blanks : List ℕ → List ℕ
past_blanks [] = []
past_blanks (c ∷ cs) = if is_blank c then past_blanks cs else c ∷ cs

-- what stands behind this word, where the text begins with it
abbrev pub past_word : List ℕ → List ℕ → Option (List ℕ)
past_word [] cs = Some cs
past_word (w ∷ ws) [] = None
past_word (w ∷ ws) (c ∷ cs) = if w == c then past_word ws cs else None

-- white space to the end; a comment that follows is a piece of its own
abbrev pub ends_line : List ℕ → Bool
ends_line cs = list_all is_blank cs

-- the name between the quotes, of which the first was read: one or more characters, and then the line's end
abbrev pub named_up_to : Option ℕ → List ℕ → Option (List ℕ)
named_up_to None cs = None
named_up_to (Some n) cs = if nat_lt 0 n && ends_line (drop (n + 1) cs) then Some (take n cs) else None

abbrev pub named_by : Option (List ℕ) → Option (List ℕ)
named_by None = None
named_by (Some cs) = named_up_to (position (λ c. c == 34) cs) cs

-- behind the word include: the quote, and what it begins
abbrev pub quoted : Option (List ℕ) → Option (List ℕ)
quoted None = None
quoted (Some cs) = named_by (past_word (34 ∷ []) (past_blanks cs))

-- the name that a line includes: # include "name", white space between, all of it characters
unfoldable pub included_name : List ℕ → Option (List ℕ)
included_name line = if is_text line then quoted (past_word (codes "include") (past_blanks (drop 1 line))) else None

-- behind the word pragma: white space and the word once
abbrev pub is_once_behind : Option (List ℕ) → Bool
is_once_behind None = false
is_once_behind (Some cs) = ends_line cs

abbrev pub is_blank_then_once : List ℕ → Bool
is_blank_then_once [] = false
is_blank_then_once (c ∷ cs) = is_blank c && is_once_behind (past_word (codes "once") (past_blanks cs))

abbrev pub is_once : Option (List ℕ) → Bool
is_once None = false
is_once (Some cs) = is_blank_then_once cs

-- # pragma once
unfoldable pub is_pragma_once : List ℕ → Bool
is_pragma_once line = is_text line && is_once (past_word (codes "pragma") (past_blanks (drop 1 line)))

-- a line that begins with # and is one of the two
abbrev pub is_directive : List ℕ → Bool
is_directive line = is_some (included_name line) || is_pragma_once line
