-- Final overriders. (ISO/IEC 14882, 10.3/2, in the words of Rossie and Friedman.)
use Rattle.std.specs.Prelude.{ℕ, ◌&&◌, List, filter, Option}
use Rattle.std.specs.List.{list_any}
use Rattle.mm_classes.specs.declared.class.Member.{Member}
use Rattle.mm_classes.specs.Classes.{Class, members_of}
use Rattle.mm_classes.specs.Subobjects.{Path, subobjects_of, end_of}
use Rattle.mm_core.specs.Sets.{only, contains, tops}
use Rattle.mm_core.specs.Heads.{same_function}

-- the subobjects of d that contain s and declare the function
abbrev pub overriders : List Class → ℕ → Path → Member → List Path
overriders g d s m =
    filter (λ t. contains g t s && list_any (same_function m) (members_of g (end_of t)))
    (subobjects_of g d)

-- The final overrider: the only one that is contained in no other of them (10.3/2).
abbrev pub final_of : List Class → ℕ → Path → Member → Option Path
final_of g d s m = only (tops g (overriders g d s m))
