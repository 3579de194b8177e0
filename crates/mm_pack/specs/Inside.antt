-- The table that vectors stand for.
use Rattle.std.specs.Prelude.{ℕ, List, map, Vec}
use Rattle.mm_pack.specs.Tables.{Table, IsTable}

-- the numbers in vectors
abbrev pub lists_in : {A : Type 0} → List (Vec ℕ A) → List (List ℕ)
lists_in vs = map (λ v. v.items) vs

-- the table of these parts
abbrev pub table_in : {A : Type 0} → List ℕ → List ℕ → List (Vec ℕ A) → Table
table_in shape cells slots = record { shape = shape; cells = cells; slots = lists_in slots }

-- it is one
abbrev pub IsTableIn : {A : Type 0} → List ℕ → List ℕ → List (Vec ℕ A) → Type 0
IsTableIn shape cells slots = IsTable (table_in shape cells slots)
