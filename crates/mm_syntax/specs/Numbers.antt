-- The suffix of a number, ISO/IEC 14882:1998, 2.13.1.
use Rattle.std.specs.Prelude.{ℕ, ◌-◌, Bool, false, ◌||◌, ◌==◌, length, slice_get, List, Option, Some, None}

-- `u` or `U`
abbrev pub is_suffix : Option ℕ → Bool
is_suffix None = false
is_suffix (Some c) = c == 117 || c == 85

-- The text of a number ends in the suffix.
abbrev pub is_unsigned : List ℕ → Bool
is_unsigned text = is_suffix (slice_get text (length text - 1))
