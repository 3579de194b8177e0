-- Places in memory, and the places of the definitions. (Own.)
use Rattle.std.specs.Prelude.{◌≤◌, ◌+◌, ◌^◌, ℕ}
use Rattle.mm_c.specs.Tokens as tokens
use Rattle.mm_c_text.specs.declared.place.Place.{Place}

abbrev pub at : Place → tokens.Place
at p = record { line = p.line; column = p.column }

-- So many bytes more leave lines and columns numbers of 32 bits.
pub record Fits (p : Place) (left : ℕ) : Type 0 where
  pub line : p.line + left ≤ 2 ^ 28
  pub column : p.column + left ≤ 2 ^ 28
  pub bytes : left ≤ 2 ^ 27
