-- The temporaries that a function declares: those that its code mentions, in the order in which
-- they are first met. (Own.)
use Rattle.std.specs.Prelude.{ℕ, Bool, false, not, ◌&&◌, ◌||◌, nat_eq, List, [], ◌∷◌, ◌++◌, length, Option, Some, None, if◌then◌else◌}
use Rattle.std.specs.List.{list_all, list_any}
use Rattle.std.specs.Str.{bytes_eq}
use Rattle.std.specs.Char.{is_ascii_digit}
use Rattle.mm_c.specs.declared.tree.CKind.{CKind}
use Rattle.mm_c.specs.declared.tree.CKind.TheVariants.{Int, Unsigned, Long, Pointer}
use Rattle.mm_c.specs.declared.tree.CLocal.{CLocal}
use Rattle.mm_c.specs.Tree.{Code}
use Rattle.mm_simulate.specs.Temporaries.{names_in}

-- no 0 stands first, but alone
abbrev pub is_plain : List ℕ → Bool
is_plain [] = false
is_plain (d ∷ ds) = not (nat_eq d 48) || nat_eq (length ds) 0

-- the digits of a number
abbrev pub is_numeral : List ℕ → Bool
is_numeral ds = is_plain ds && list_all is_ascii_digit ds

-- `i`, `u`, `l`, `p`
abbrev pub letter_kind : ℕ → Option CKind
letter_kind c = if nat_eq c 105 then Some Int else (if nat_eq c 117 then Some Unsigned else
    (if nat_eq c 108 then Some Long else (if nat_eq c 112 then Some Pointer else None)))

-- the kind of the temporary of this name
abbrev pub kind_named : List ℕ → Option CKind
kind_named [] = None
kind_named (c ∷ ds) = if is_numeral ds then letter_kind c else None

abbrev pub is_declared : List CLocal → List ℕ → Bool
is_declared ls x = list_any (λ (l : CLocal). bytes_eq l.name x) ls

abbrev pub noted_as : List CLocal → List ℕ → Option CKind → List CLocal
noted_as ls x None = ls
noted_as ls x (Some k) = if is_declared ls x then ls else ls ++ record { kind = k; name = x } ∷ []

-- the locals so far, and that of a name that is new
abbrev pub noted : List CLocal → List ℕ → List CLocal
noted ls x = noted_as ls x (kind_named x)

abbrev pub noted_all : List CLocal → List (List ℕ) → List CLocal
noted_all ls [] = ls
noted_all ls (x ∷ xs) = noted_all (noted ls x) xs

abbrev pub needed : Code → List CLocal
needed code = noted_all [] (names_in code)
