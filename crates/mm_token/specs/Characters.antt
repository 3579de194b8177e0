-- The characters of a file, and what each may begin. Characters are numbers.
-- A unit's text is UTF-8 (own; ISO/IEC 14882:1998, 2.1 leaves the physical characters open). Where bytes stop
-- being UTF-8, the first of them stands as a number that is no character, and those behind it one by one.
use Rattle.std.specs.Prelude.{ℕ, ◌+◌, Bool, false, ◌&&◌, ◌||◌, ◌==◌, if◌then◌else◌, List, [], ◌∷◌, ◌++◌, nat_le, take, drop}
use Rattle.std.specs.List.{list_all}
use Rattle.std.specs.Char.{len_utf8}
use Rattle.std.specs.Str.{chars}
use Rattle.std.specs.Str.Lossy.{utf8_valid_len}
use lib.Utf8.{scalar as is_character}
use Rattle.unicode_ident.specs.Ident.{is_xid_start, is_xid_continue}
use Rattle.mm_base.specs.declared.place.Place.{Place}
use Rattle.mm_token.specs.declared.piece.Sort.{Sort}
use Rattle.mm_token.specs.declared.piece.Sort.TheVariants as sort_is

-- a number that is no character
abbrev pub no_character : ℕ
no_character = 0x11_0000

-- bytes that begin with no character
abbrev pub spoiled : List ℕ → List ℕ
spoiled [] = []
spoiled (b ∷ bs) = no_character ∷ bs

-- the characters of the longest front of the bytes that is UTF-8, and the bytes behind it
unfoldable pub characters_of : List ℕ → List ℕ
characters_of bytes = chars (take (utf8_valid_len bytes) bytes) ++ spoiled (drop (utf8_valid_len bytes) bytes)

-- whether these are characters
abbrev pub is_text : List ℕ → Bool
is_text cs = list_all is_character cs

-- white space: blank, tab, LF, VT, FF, CR
abbrev pub is_blank : ℕ → Bool
is_blank c = c == 32 || (nat_le 9 c && nat_le c 13)

abbrev pub is_digit : ℕ → Bool
is_digit c = nat_le 48 c && nat_le c 57

-- { } ( ) ; , . ~ ? : & | + - = < > ! * %
abbrev pub is_punctuation : ℕ → Bool
is_punctuation c = c == 123 || c == 125 || c == 40 || c == 41 || c == 59 || c == 44 || c == 46 || c == 126 || c == 63 || c == 58 || c == 38 || c == 124 || c == 43 || c == 45 || c == 61 || c == 60 || c == 62 || c == 33 || c == 42 || c == 37

abbrev pub sort_of_character : ℕ → Sort
sort_of_character c =
    if is_blank c then sort_is.Blank else
    (if c == 47 then sort_is.Slash else
    (if is_punctuation c then sort_is.Punctuation else
    (if is_digit c then sort_is.Digit else
    (if c == 35 then sort_is.Hash else
    (if (c == 95 || is_xid_start c) then sort_is.Letter else sort_is.Other)))))

-- what a character may begin; an identifier begins with _ or a character that may start one (own, for 2.10)
abbrev pub sort_of : ℕ → Sort
sort_of c = if is_character c then sort_of_character c else sort_is.Other

-- what an identifier may go on with
abbrev pub continues : ℕ → Bool
continues c = is_character c && (c == 95 || is_xid_continue c)

-- the marks of two characters: :: && || ++ -- == -> and those with = at the end (2.12)
abbrev pub is_pair : ℕ → ℕ → Bool
is_pair c d =
    (d == c && (c == 58 || c == 38 || c == 124 || c == 43 || c == 45)) ||
    (d == 61 && (c == 61 || c == 60 || c == 62 || c == 33 || c == 43 || c == 45 || c == 42 || c == 47 || c == 37)) ||
    (c == 45 && d == 62)

abbrev pub begins_pair : List ℕ → Bool
begins_pair [] = false
begins_pair (c ∷ []) = false
begins_pair (c ∷ d ∷ r) = is_pair c d

-- the place after these characters: lines end at LF, and columns count the bytes of UTF-8
abbrev pub place_after : Place → List ℕ → Place
place_after at [] = at
place_after at (c ∷ cs) = place_after (if c == 10 then record { file = at.file; line = at.line + 1; col = 1 } else record { file = at.file; line = at.line; col = at.col + len_utf8 c }) cs
