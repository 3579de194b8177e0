-- The tokens of a C text, with their places: the longest runs of letters, digits and `_`, and the longest marks.
-- (ISO/IEC 14882, 2.2 to 2.12, for these marks; own.)
use Rattle.std.specs.Prelude.{ℕ, ◌+◌, ◌^◌, Bool, true, false, not, ◌&&◌, ◌||◌, ◌==◌, nat_lt, List, [], ◌∷◌, ◌++◌, codes, if◌then◌else◌}
use Rattle.std.specs.Str.{bytes_eq}
use Rattle.std.specs.List.{list_all}
use Rattle.std.specs.Char.{is_ascii_digit, is_ascii_alphanumeric}
use Rattle.std.specs.Str.Parse.{digits_value}
use Rattle.mm_c.specs.declared.tree.CNumber.{CNumber}

-- ---- places

-- a line and a column, both from 1; columns count bytes
pub record Place : Type 0 where
  pub line : ℕ
  pub column : ℕ

abbrev pub first_place : Place
first_place = record { line = 1; column = 1 }

-- the place after a byte
abbrev pub past : Place → ℕ → Place
past at b = if b == 10 then record { line = at.line + 1; column = 1 } else record { line = at.line; column = at.column + 1 }

-- the end of a text that begins there
abbrev pub end_from : Place → List ℕ → Place
end_from at [] = at
end_from at (b ∷ bs) = end_from (past at b) bs

-- ---- the cut

pub record Token : Type 0 where
  pub text : List ℕ
  pub place : Place

-- blank, tab and LF
abbrev pub is_white : ℕ → Bool
is_white b = (b == 32) || (b == 9) || (b == 10)

-- a letter, a digit or `_`
abbrev pub is_word_byte : ℕ → Bool
is_word_byte b = is_ascii_alphanumeric b || (b == 95)

-- `<`, `>`, `=` and `!`, which a `=` may follow
abbrev pub takes_equals : ℕ → Bool
takes_equals b = (b == 60) || (b == 62) || (b == 61) || (b == 33)

-- Whether a byte goes on with a token that has begun. Any other byte that is not white begins the next one.
abbrev pub joins : List ℕ → ℕ → Bool
joins [] b = false
joins (a ∷ []) b = (is_word_byte a && is_word_byte b) || (takes_equals a && (b == 61))
joins (a ∷ c ∷ more) b = is_word_byte a && is_word_byte b

-- a token in front of others, where it isn't empty
abbrev pub in_front : Place → List ℕ → List Token → List Token
in_front at [] tokens = tokens
in_front at (b ∷ bs) tokens = record { text = b ∷ bs; place = at } ∷ tokens

-- the token that a byte begins, which is none for white space
abbrev pub begun : ℕ → List ℕ
begun b = if is_white b then [] else b ∷ []

-- The tokens of a text behind a piece that began at a place; the text goes on here.
unfoldable pub cut : List ℕ → Place → Place → List ℕ → List Token
cut piece at here [] = in_front at piece []
cut piece at here (b ∷ bs) =
    elim (joins piece b) [
      | true ↦ cut (piece ++ b ∷ []) at (past here b) bs
      | false ↦ in_front at piece (cut (begun b) here (past here b) bs)
    ]

-- the tokens of a text that begins at a place
abbrev pub tokens_from : Place → List ℕ → List Token
tokens_from here text = cut [] here here text

-- The tokens of a text. What is no token of a program, as `0x` or `@`, is a piece like others, of a class that no rule has.
abbrev pub tokens_of : List ℕ → List Token
tokens_of text = tokens_from first_place text

-- ---- words, names and numbers

-- The words and marks of the grammar, the names of the prelude's functions, and the numbers that stand in rules, each
-- with its class. The class of other names is 0, and of other numbers 14.
abbrev pub classes : List (List ℕ × ℕ)
classes =
    (codes "(", 20) ∷ (codes ")", 21) ∷ (codes "{", 22) ∷ (codes "}", 23) ∷ (codes "[", 24) ∷ (codes "]", 25)
    ∷ (codes ";", 26) ∷ (codes ",", 27) ∷ (codes "=", 28)
    ∷ (codes "*", 29) ∷ (codes "+", 30) ∷ (codes "-", 31) ∷ (codes "/", 32) ∷ (codes "%", 33) ∷ (codes "<", 34) ∷ (codes ">", 35)
    ∷ (codes "<=", 36) ∷ (codes ">=", 37) ∷ (codes "==", 38) ∷ (codes "!=", 39)
    ∷ (codes "typedef", 40) ∷ (codes "static", 41) ∷ (codes "const", 42) ∷ (codes "inline", 43) ∷ (codes "void", 44)
    ∷ (codes "int", 45) ∷ (codes "unsigned", 46) ∷ (codes "long", 47) ∷ (codes "char", 48) ∷ (codes "short", 49)
    ∷ (codes "if", 50) ∷ (codes "else", 51) ∷ (codes "while", 52) ∷ (codes "break", 53) ∷ (codes "continue", 54)
    ∷ (codes "return", 55) ∷ (codes "extern", 56)
    ∷ (codes "mm_put", 1) ∷ (codes "mm_get", 2) ∷ (codes "mm_more", 3) ∷ (codes "mm_trap", 4) ∷ (codes "mm_new", 5)
    ∷ (codes "0", 10) ∷ (codes "0u", 11) ∷ (codes "1", 12) ∷ (codes "2147483647", 13) ∷ []

-- a letter or `_`, and then letters, digits and `_`
abbrev pub is_run : List ℕ → Bool
is_run [] = false
is_run (b ∷ bs) = is_word_byte b && not (is_ascii_digit b) && list_all is_word_byte bs

-- digits without a leading 0, but for `0` itself
abbrev pub are_digits : List ℕ → Bool
are_digits [] = false
are_digits (b ∷ []) = is_ascii_digit b
are_digits (b ∷ c ∷ more) = is_ascii_digit b && not (b == 48) && list_all is_ascii_digit (c ∷ more)

-- the digits of a number, before its suffix, if it has one
abbrev pub digits_in : List ℕ → List ℕ
digits_in [] = []
digits_in (b ∷ []) = if b == 117 then [] else b ∷ []
digits_in (b ∷ c ∷ more) = b ∷ digits_in (c ∷ more)

abbrev pub has_suffix : List ℕ → Bool
has_suffix [] = false
has_suffix (b ∷ []) = b == 117
has_suffix (b ∷ c ∷ more) = has_suffix (c ∷ more)

-- the number that a token of numbers is
abbrev pub number_in : List ℕ → CNumber
number_in text = record { value = digits_value 10 (digits_in text); is_unsigned = has_suffix text }

-- a number that a token can be
abbrev pub is_number : CNumber → Bool
is_number n = nat_lt n.value (if n.is_unsigned then 2 ^ 32 else 2 ^ 31)

-- the class of a token that is no word and no mark
abbrev pub class_of_other : List ℕ → ℕ
class_of_other text = if is_run text then 0 else (if are_digits (digits_in text) && is_number (number_in text) then 14 else 99)

abbrev pub class_in : List (List ℕ × ℕ) → List ℕ → ℕ
class_in [] text = class_of_other text
class_in (c ∷ cs) text = elim (bytes_eq c.0 text) [ true ↦ c.1 | false ↦ class_in cs text ]

abbrev pub class_of : Token → ℕ
class_of t = class_in classes t.text

-- the classes of names, and of numbers
abbrev pub names : List ℕ
names = 0 ∷ 1 ∷ 2 ∷ 3 ∷ 4 ∷ 5 ∷ []

abbrev pub numbers : List ℕ
numbers = 10 ∷ 11 ∷ 12 ∷ 13 ∷ 14 ∷ []
