-- Whether no item or statement of some breaks a rule, and which is the first that does.
use Rattle.std.specs.Prelude.{◌≡◌, ℕ, suc, ◌-◌, min, Bool, true, false, not, List, [], ◌∷◌, Option, Some, None}
use Rattle.std.specs.List.{list_any}
use Rattle.mm_c.specs.WellFormed.{is_true}

abbrev pub keeps : List Bool → Bool
keeps breaks = not (list_any is_true breaks)

-- how many stand before the first that breaks a rule, or how many there are
abbrev pub before_first : List Bool → ℕ
before_first [] = 0
before_first (true ∷ bs) = 0
before_first (false ∷ bs) = suc (before_first bs)

-- how many of n are left where one is taken for each that stands before the first
abbrev pub left_of : ℕ → List Bool → ℕ
left_of n [] = n
left_of n (true ∷ bs) = n
left_of n (false ∷ bs) = left_of (n - 1) bs

-- None breaks a rule; or the first that does has this number, counted from 0, if it is less than a
-- count, and else the count.
abbrev pub IsFirstBreak : List Bool → ℕ → Option ℕ → Type 0
IsFirstBreak bs count None = keeps bs ≡ true
IsFirstBreak bs count (Some i) = (keeps bs ≡ false) × (i ≡ min (before_first bs) count)
