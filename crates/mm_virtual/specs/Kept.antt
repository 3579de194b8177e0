-- What vectors stand for, and what is known while they are made.
use Rattle.std.specs.Prelude.{◌≡◌, ℕ, ◌<◌, ◌≤◌, Bool, false, List, [], ◌∷◌, ◌++◌, length, get_or, map, Option, None, Some, slice_get}
use Rattle.std.specs.Bool.{Decides}
use Rattle.mm_classes.specs.declared.class.Member.{Member}
use Rattle.mm_classes.specs.Classes.{Class}
use Rattle.mm_classes.specs.Subobjects.{subobjects_of, end_of, IsWithin}
use Rattle.mm_classes.specs.Functions.{IsVirtualIn}
use Rattle.mm_classes.specs.Questions.{node, IsNode}
use Rattle.mm_classes.specs.Tops.{IsBest}
use Rattle.mm_virtual.specs.declared.end.MemberRef.{MemberRef}
use Rattle.mm_virtual.specs.declared.end.FinalEnd.{FinalEnd}
use Rattle.mm_virtual.specs.declared.end.FinalEnd.TheVariants as end
use Rattle.mm_virtual.specs.declared.finals.Row.{Row}
use Rattle.mm_virtual.specs.Overriders.{IsOver, IsVirtualAt, HasNoFinal}
use Rattle.mm_virtual.specs.Finals.{Line, Tells, IsFinalRef, IsFirstWithout}

-- the line of what is kept of a subobject
abbrev pub line_of : Row → Line
line_of r = record { members = r.members.items; finals = r.finals.items }

-- all of them
abbrev pub lines_of : List Row → List Line
lines_of rs = map line_of rs

-- each number is above the one before
abbrev pub Rises : List ℕ → Type 0
Rises xs = (i j : ℕ) → i < j → j < length xs → get_or xs i 0 < get_or xs j 0

-- x stands in the list at a place from the first bound on and below the second
abbrev pub StandsAmong : List ℕ → ℕ → ℕ → ℕ → Type 0
StandsAmong xs x low high = (i : ℕ) × (low ≤ i) × (i < high) × (high ≤ length xs) × (get_or xs i 0 ≡ x)

-- the members stand in their order, and each has its final overrider at the same place
pub record IsRow (l : Line) : Type 0 where
  pub rises : Rises l.members
  pub long : length l.finals ≡ length l.members

-- each is a row
abbrev pub AreRows : List Line → Type 0
AreRows ls = (n : ℕ) (l : Line) → slice_get ls n ≡ Some l → IsRow l

-- for each subobject of d whether it contains the n-th
pub record AreAround (g : List Class) (d n : ℕ) (around : List Bool) : Type 0 where
  pub count : length around ≡ length (subobjects_of g d)
  pub each : (t : ℕ) → IsNode g d t → Decides (get_or around t false) (IsWithin g (node g d n) (node g d t))

-- Of the first subobjects, none contains the n-th and declares the function; or b does, and where
-- one that does contains all others that do, it is b.
abbrev pub IsBestOf : List Class → ℕ → ℕ → Member → Option ℕ → ℕ → Type 0
IsBestOf g d n m None bound = (t : ℕ) → t < bound → IsOver g d n m t → ⊥
IsBestOf g d n m (Some b) bound = IsBest g d (IsOver g d n m) b bound

-- the line of the n-th subobject of d, of its first k members
pub record IsLineOf (g : List Class) (d n k : ℕ) (l : Line) : Type 0 where
  pub row : IsRow l
  pub below : (i : ℕ) → i < length l.members → get_or l.members i 0 < k
  pub some : (j : ℕ) (m : Member) → j < k → IsVirtualAt g d n j m → (r : ℕ × MemberRef) × Tells l j r
  pub each : (j : ℕ) (m : Member) (r : ℕ × MemberRef) → IsVirtualAt g d n j m → Tells l j r → IsFinalRef g d n m r

-- what is said of a function without an only final overrider
abbrev pub IsSeveralOf : Member → FinalEnd → Type 0
IsSeveralOf m (end.Several name place) = (name ≡ m.name) × (place ≡ m.place)
IsSeveralOf m (end.Result place) = ⊥
IsSeveralOf m end.NoMemory = Unit {0}

-- nothing for a member that is not virtual in the class of the n-th subobject, and else its final
-- overrider
abbrev pub IsLookedUp : List Class → ℕ → ℕ → Member → Option (ℕ × MemberRef) → Type 0
IsLookedUp g d n m None = IsVirtualIn g (end_of (node g d n)) m → ⊥
IsLookedUp g d n m (Some r) = IsVirtualIn g (end_of (node g d n)) m × IsFinalRef g d n m r

-- a virtual member of it without an only final overrider
abbrev pub Lacks : List Class → ℕ → ℕ → Member → FinalEnd → Type 0
Lacks g d n m (end.Several name place) = IsVirtualIn g (end_of (node g d n)) m × HasNoFinal g d n m × (name ≡ m.name) × (place ≡ m.place)
Lacks g d n m (end.Result place) = ⊥
Lacks g d n m end.NoMemory = Unit {0}

-- the first one of the class of the n-th subobject
abbrev pub LacksIn : List Class → ℕ → ℕ → FinalEnd → Type 0
LacksIn g d n (end.Several name place) = (k : ℕ) × (m : Member) × IsVirtualAt g d n k m × HasNoFinal g d n m
    × ((j : ℕ) (x : Member) → j < k → IsVirtualAt g d n j x → HasNoFinal g d n x → ⊥) × (name ≡ m.name) × (place ≡ m.place)
LacksIn g d n (end.Result place) = ⊥
LacksIn g d n end.NoMemory = Unit {0}

-- the first one of all
abbrev pub LacksFirst : List Class → ℕ → FinalEnd → Type 0
LacksFirst g d (end.Several name place) = (n k : ℕ) × (m : Member) × IsFirstWithout g d n k m × (name ≡ m.name) × (place ≡ m.place)
LacksFirst g d (end.Result place) = ⊥
LacksFirst g d end.NoMemory = Unit {0}

-- a line with one more member
abbrev pub longer : Line → ℕ → ℕ × MemberRef → Line
longer l k r = record { members = l.members ++ k ∷ []; finals = l.finals ++ r ∷ [] }

-- the same, if there is one
abbrev pub with_found : Line → ℕ → Option (ℕ × MemberRef) → Line
with_found l k None = l
with_found l k (Some r) = longer l k r
