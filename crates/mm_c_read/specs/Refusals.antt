-- What a text that was parsed says, and why a text gives no program. Own.
use Rattle.std.specs.Prelude.{◌≡◌, ◌⊎◌, ℕ, Bool, true, false, List, length, Option, Some, None}
use Rattle.std.specs.List.{list_any}
use Rattle.mm_c.specs.Tokens.{Place, first_place}
use Rattle.mm_c.specs.View.{program_view}
use Rattle.mm_c.specs.WellFormed.{breaks, has_main, well_formed, is_true, first_broken}
use Rattle.mm_c.specs.Spelling.{Parses, RefusedAt}
use Rattle.mm_c_text.specs.declared.place.Place as memory
use Rattle.mm_c_text.specs.Places.{at}
use Rattle.mm_c_parse_item.specs.declared.program.Parsed.{Parsed}
use Rattle.mm_c_read.specs.declared.ReadEnd.{ReadEnd}
use Rattle.mm_c_read.specs.declared.ReadEnd.TheVariants.{Refused, NoMemory}

-- The text is refused at this place; or memory ran out.
abbrev pub IsRefusal : List ℕ → ReadEnd → Type 0
IsRefusal text (Refused place) = RefusedAt text (at place)
IsRefusal text NoMemory = Unit {0}

-- The text is one of the grammar, with this program and these places.
abbrev pub IsText : List ℕ → Parsed → Type 0
IsText text p = Parses text (program_view p.program) p.places

-- whether each item and statement of the program breaks a rule, in the order of the text
abbrev pub breaks_in : Parsed → List Bool
breaks_in p = breaks (program_view p.program)

-- Each item and statement has its place.
abbrev pub HasPlaces : Parsed → Type 0
HasPlaces p = length (breaks_in p) ≡ length p.places

abbrev pub KeepsRules : Parsed → Type 0
KeepsRules p = well_formed (program_view p.program) ≡ true

-- `main` is missing.
abbrev pub HasNoMain : Parsed → Type 0
HasNoMain p = has_main (program_view p.program) ≡ false

-- The first item or statement that breaks a rule has this place; or none breaks a rule, `main` is missing, and the place
-- is the first of the text.
abbrev pub BreaksAt : Parsed → Place → Type 0
BreaksAt p place =
    (first_broken (breaks_in p) p.places ≡ Some place) ⊎ ((list_any is_true (breaks_in p) ≡ false) × HasNoMain p × (place ≡ first_place))

-- No rule is broken and `main` is there; or this is the place where the first is broken.
abbrev pub IsJudged : Parsed → Option memory.Place → Type 0
IsJudged p None = KeepsRules p
IsJudged p (Some place) = BreaksAt p (at place)
