-- A unit's tokens: those of its own file, each header's in place of the first directive that names it, and the first
-- fault in this order (ISO/IEC 14882:1998, 2.1 and 16.2; that a header comes once, and the limits, are own).
use Rattle.std.specs.Prelude.{◌≡◌, ℕ, zero, suc, ◌+◌, ◌^◌, ◌<◌, ◌≤◌, Bool, true, false, ◌||◌, if◌then◌else◌, List, [], ◌∷◌, ◌++◌, length, drop, Option, Some, None, IfSome, ◌⊎◌}
use Rattle.std.specs.List.{list_any}
use Rattle.std.specs.Str.{bytes_eq, encode_utf8_all}
use Rattle.mm_base.specs.Outside.{Contents}
use Rattle.mm_base.specs.declared.code.Code.{Code}
use Rattle.mm_base.specs.declared.code.TheConstants.Code.{L4, L6}
use Rattle.mm_base.specs.declared.limits.TheConstants.{MAX_UNIT_BYTES, MAX_INCLUDE_DEPTH}
use Rattle.mm_base.specs.declared.place.Place.{Place}
use Rattle.mm_token.specs.declared.piece.Shape.{Shape}
use Rattle.mm_token.specs.declared.piece.Shape.TheVariants as shape
use Rattle.mm_token.specs.declared.words.Wrong.{Wrong}
use Rattle.mm_token.specs.declared.token.Kind.{Kind}
use Rattle.mm_token.specs.declared.token.Kind.TheVariants as kind
use Rattle.mm_token.specs.declared.token.Token.{Token}
use Rattle.mm_token.specs.declared.token.Tokens.{Tokens}
use Rattle.mm_token.specs.declared.token.TokenEnd.{TokenEnd}
use Rattle.mm_token.specs.declared.token.TokenEnd.TheVariants.{Absent, Failed, TooLong, Fault, NoMemory}
use Rattle.mm_token.specs.Characters.{characters_of, place_after}
use Rattle.mm_token.specs.Words.{is_among, is_keyword, begins_class, value_of, included_name}
use Rattle.mm_token.specs.Pieces.{IsLongest}
use Rattle.mm_token.specs.Cut.{Piece, text_of, fresh_behind, IsCut, IsFault, code_of}

-- ---- what was read so far

-- the files in the order in which they were begun, the tokens, and the bytes of the files
pub record State : Type 0 where
  pub files : List (List ℕ)
  pub tokens : List Token
  pub bytes : ℕ

abbrev pub nothing_read : State
nothing_read = record { files = []; tokens = []; bytes = 0 }

-- one more file is begun
abbrev pub with_file : State → List ℕ → ℕ → State
with_file s name size = record { files = s.files ++ name ∷ []; tokens = s.tokens; bytes = s.bytes + size }

abbrev pub with_token : State → Token → State
with_token s t = record { files = s.files; tokens = s.tokens ++ t ∷ []; bytes = s.bytes }

-- whether a directive named the file before; the first file is the unit's own, which none named
abbrev pub was_included : State → List ℕ → Bool
was_included s name = is_among name (drop 1 s.files)

-- where the next file begins
abbrev pub file_start : State → Place
file_start s = record { file = length s.files; line = 1; col = 1 }

-- ---- one token

-- the word class or struct
abbrev pub is_class_key : Token → Bool
is_class_key t = elim t.kind [ kind.Key ↦ begins_class t.text | _ ↦ false ]

-- whether the last of the tokens is such a word
abbrev pub awaits_class : List Token → Bool
awaits_class [] = false
awaits_class (t ∷ []) = is_class_key t
awaits_class (t ∷ u ∷ ts) = awaits_class (u ∷ ts)

abbrev pub is_class_name : List ℕ → Token → Bool
is_class_name word t = elim t.kind [ kind.Class ↦ bytes_eq t.text word | _ ↦ false ]

-- whether a word behind these tokens is a class name: it stands after class or struct, there or before (9.1/2; own)
abbrev pub names_class : List Token → List ℕ → Bool
names_class before word = awaits_class before || list_any (is_class_name word) before

abbrev pub kind_of_word : List Token → List ℕ → Kind
kind_of_word before word = if is_keyword word then kind.Key else (if names_class before word then kind.Class else kind.Word)

abbrev pub token_kind : List Token → Shape → List ℕ → Kind
token_kind before shape.Word text = kind_of_word before text
token_kind before shape.Number text = kind.Number
token_kind before _ text = kind.Mark

abbrev pub token_value : Shape → List ℕ → ℕ
token_value shape.Number cs = value_of cs
token_value _ cs = 0

-- the file that a line includes: its name as it stands, in UTF-8
abbrev pub encoded : Option (List ℕ) → Option (List ℕ)
encoded None = None
encoded (Some cs) = Some (encode_utf8_all cs)

abbrev pub file_named : List ℕ → Option (List ℕ)
file_named line = encoded (included_name line)

-- the token that a piece is behind these tokens
abbrev pub token_of : List Token → Piece → Place → Token
token_of before p at = record { kind = token_kind before p.kind (encode_utf8_all p.text); value = token_value p.kind p.text; text = encode_utf8_all p.text; place = at }

-- ---- good readings

-- What the files hold under a name; any bytes where they don't tell.
abbrev pub Holds : Option Contents → List ℕ → List ℕ → Type 0
Holds held name bytes = IfSome held (λ h. h name ≡ Some bytes)

-- The file is held, and is within its own limit and that of the unit.
abbrev pub Fits : Option Contents → List ℕ → List ℕ → State → Type 0
Fits held name bytes s = Holds held name bytes × (length bytes ≤ MAX_UNIT_BYTES) × (s.bytes + length bytes ≤ MAX_UNIT_BYTES)

-- what an included file puts: nothing where it was included before
abbrev pub Includes : (List ℕ → State → State → Type 0) → Option (List ℕ) → State → State → Type 0
Includes File None s t = t ≡ s
Includes File (Some name) s t = elim (was_included s name) [ true ↦ t ≡ s | false ↦ File name s t ]

-- what a piece puts: white space and comments nothing, a directive the file that it includes
abbrev pub Puts : (List ℕ → State → State → Type 0) → Shape → List ℕ → Place → State → State → Type 0
Puts File shape.Blank text at s t = t ≡ s
Puts File shape.Line text at s t = t ≡ s
Puts File shape.Block text at s t = t ≡ s
Puts File shape.Open text at s t = ⊥
Puts File shape.Directive text at s t = Includes File (file_named text) s t
Puts File shape.Word text at s t = t ≡ with_token s (token_of s.tokens (record { kind = shape.Word; text = text }) at)
Puts File shape.Number text at s t = t ≡ with_token s (token_of s.tokens (record { kind = shape.Number; text = text }) at)
Puts File shape.Mark text at s t = t ≡ with_token s (token_of s.tokens (record { kind = shape.Mark; text = text }) at)

-- what pieces put, one after another
abbrev pub PutsAll : (List ℕ → State → State → Type 0) → List Piece → Place → State → State → Type 0
PutsAll File [] at s t = t ≡ s
PutsAll File (p ∷ ps) at s t = (mid : State) × Puts File p.kind p.text at s mid × PutsAll File ps (place_after at p.text) mid t

-- what a text puts: it is cut into longest pieces to its end
abbrev pub PutsText : (List ℕ → State → State → Type 0) → List ℕ → Place → State → State → Type 0
PutsText File text at s t = (ps : List Piece) × IsCut true text ps [] × PutsAll File ps at s t

-- what the file of a name puts, with files included in it fewer than n deep
abbrev pub PutsFile : Option Contents → ℕ → List ℕ → State → State → Type 0
PutsFile held zero name s t = ⊥
PutsFile held (suc n) name s t = (bytes : List ℕ) × Fits held name bytes s × PutsText (PutsFile held n) (characters_of bytes) (file_start s) (with_file s name (length bytes)) t

-- ---- first faults

-- The name isn't held; the file is past its own limit.
abbrev pub Lacks : Option Contents → List ℕ → Type 0
Lacks held name = IfSome held (λ h. h name ≡ None)

abbrev pub IsLong : Option Contents → List ℕ → Type 0
IsLong held name = IfSome held (λ h. (bytes : List ℕ) × (h name ≡ Some bytes) × (MAX_UNIT_BYTES < length bytes))

-- what keeps a file from being begun, which a directive at this place of the file `from` names; a read may fail at any
abbrev pub KeepsOut : Option Contents → List ℕ → List ℕ → Place → State → TokenEnd → Type 0
KeepsOut held name from at s (Absent n p) = Lacks held name × (n ≡ name) × (p ≡ at)
KeepsOut held name from at s (TooLong n) = IsLong held name × (n ≡ name)
KeepsOut held name from at s (Fault code p n) =
    (bytes : List ℕ) × Holds held name bytes × (length bytes ≤ MAX_UNIT_BYTES) × (MAX_UNIT_BYTES < s.bytes + length bytes) × (code ≡ L6) × (p ≡ at) × (n ≡ from)
KeepsOut held name from at s (Failed n) = n ≡ name
KeepsOut held name from at s NoMemory = ⊥

-- A text stops here: a lexical fault of its own, or a directive at which the included file is refused.
abbrev pub StopsHere : (List ℕ → Place → State → TokenEnd → Type 0) → List ℕ → Bool → List ℕ → Place → State → TokenEnd → Type 0
StopsHere Refused name fresh rest at s e =
    ((w : Wrong) × (place : Place) × IsFault fresh rest at w place × (e ≡ Fault (code_of w) place name)) ⊎
    ((line : List ℕ) × (after : List ℕ) × (inner : List ℕ) × IsLongest fresh rest shape.Directive line after × (file_named line ≡ Some inner) × (was_included s inner ≡ false) × Refused inner at s e)

-- A text stops: it is cut into pieces up to a place, and stops there.
abbrev pub StopsText : (List ℕ → State → State → Type 0) → (List ℕ → Place → State → TokenEnd → Type 0) → List ℕ → List ℕ → Place → State → TokenEnd → Type 0
StopsText File Refused name text at s e =
    (ps : List Piece) × (rest : List ℕ) × (mid : State) × IsCut true text ps rest × PutsAll File ps at s mid
    × StopsHere Refused name (fresh_behind true ps) rest (place_after at (text_of ps)) mid e

-- how the file of a name is refused, or its text stops, with files included in it fewer than n deep
abbrev pub Refuses : Option Contents → ℕ → List ℕ → List ℕ → Place → State → TokenEnd → Type 0
Refuses held zero from name at s e = e ≡ Fault (L4) at from
Refuses held (suc n) from name at s e =
    KeepsOut held name from at s e ⊎
    ((bytes : List ℕ) × Fits held name bytes s × StopsText (PutsFile held n) (Refuses held n name) name (characters_of bytes) (file_start s) (with_file s name (length bytes)) e)

-- ---- a unit

-- how deep files stand, the unit's own counted
abbrev pub depth_limit : ℕ
depth_limit = MAX_INCLUDE_DEPTH + 1

-- the place of what no directive names
abbrev pub unit_start : Place
unit_start = record { file = 0; line = 1; col = 1 }

-- These are the unit's tokens.
abbrev pub Reads : Option Contents → List ℕ → Tokens → Type 0
Reads held unit t =
    (bytes : List ℕ) × (s : State) × Fits held unit bytes nothing_read
    × PutsText (PutsFile held MAX_INCLUDE_DEPTH) (characters_of bytes) unit_start (with_file nothing_read unit (length bytes)) s
    × (t.files ≡ s.files) × (t.list ≡ s.tokens) × (t.bytes ≡ s.bytes) × (t.end ≡ place_after unit_start (characters_of bytes))

-- a fact on why there are no tokens, where memory didn't run out
abbrev pub Stopped : TokenEnd → Type 0 → Type 0
Stopped NoMemory P = Unit {0}
Stopped _ P = P

-- This is the first refusal of the unit; nothing is said where memory ran out.
abbrev pub IsRefused : Option Contents → List ℕ → TokenEnd → Type 0
IsRefused held unit e = Stopped e (Refuses held depth_limit [] unit unit_start nothing_read e)

-- The first lexical fault of the unit has this code and stands at this place of this file.
abbrev pub FirstLexicalFault : Option Contents → List ℕ → Code → Place → List ℕ → Type 0
FirstLexicalFault held unit code place name = Refuses held depth_limit [] unit unit_start nothing_read (Fault code place name)
