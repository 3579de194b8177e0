-- Which program a text spells, and where it is refused that spells none. (Own.)
use Rattle.std.specs.Prelude.{◌≡◌, ◌⊎◌, true, false, ℕ, List, [], ◌∷◌, Some}
use Rattle.std.specs.List.{list_any}
use Rattle.mm_grammar.specs.Grammar.{name, Spells, Reads, Fails}
use Rattle.mm_c.specs.Tree.{Program}
use Rattle.mm_c.specs.Tokens.{Token, Place, first_place, end_from, tokens_of}
use Rattle.mm_c.specs.Grammar.{Placed, program, texts}
use Rattle.mm_c.specs.WellFormed.{breaks, has_main, well_formed, is_true, first_broken}

-- The text is one of the grammar, with this tree, and with these places of its items and statements.
abbrev pub Parses : List ℕ → Program → List Place → Type 0
Parses text p places = Spells texts (name program) (tokens_of text) (record { tree = p; places = places })

-- The text spells the program.
pub record SpellsProgram (text : List ℕ) (p : Program) : Type 0 where
  pub places : List Place
  pub parses : Parses text p places
  pub well_formed : well_formed p ≡ true

-- the place of the first token of a rest, or the end
abbrev pub place_of : List ℕ → List Token → Place
place_of text [] = end_from first_place text
place_of text (t ∷ ts) = t.place

-- No text of the grammar goes on with the first token of the rest; where there is none, the whole is no text of it.
abbrev pub BreaksGrammar : List ℕ → Place → Type 0
BreaksGrammar text place = (rest : List Token) × (place ≡ place_of text rest)
    × (Fails texts (name program) (tokens_of text) rest ⊎ ((v : Placed Program) × (t : Token) × (more : List Token) × (rest ≡ t ∷ more) × Reads texts (name program) (tokens_of text) v rest))

-- The first item or statement that breaks a rule stands there; or none does, `main` is missing, and the place is 1:1.
abbrev pub BreaksRule : List ℕ → Place → Type 0
BreaksRule text place = (p : Program) × (places : List Place) × Parses text p places
    × ((first_broken (breaks p) places ≡ Some place) ⊎ ((list_any is_true (breaks p) ≡ false) × (has_main p ≡ false) × (place ≡ first_place)))

-- Where a text that spells no program is refused.
abbrev pub RefusedAt : List ℕ → Place → Type 0
RefusedAt text place = BreaksGrammar text place ⊎ BreaksRule text place
