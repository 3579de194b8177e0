-- The final overriders of a class, and why there are none. Own.
use Rattle.std.specs.Prelude.{◌≡◌, ℕ, ◌<◌, ◌≤◌, List, [], length, get_or, Some, slice_get, ◌⊎◌}
use Rattle.mm_classes.specs.declared.class.Member.{Member}
use Rattle.mm_classes.specs.Classes.{Class, members_of}
use Rattle.mm_classes.specs.Subobjects.{end_of}
use Rattle.mm_classes.specs.Questions.{node}
use Rattle.mm_virtual.specs.declared.end.MemberRef.{MemberRef}
use Rattle.mm_virtual.specs.declared.end.FinalEnd.{FinalEnd}
use Rattle.mm_virtual.specs.declared.end.FinalEnd.TheVariants as end
use Rattle.mm_virtual.specs.Overriders.{IsSameAt, IsVirtualAt, IsFinal, HasNoFinal}
use Rattle.mm_virtual.specs.Results.{IsBroken}

-- what is kept of one subobject: the numbers of its class's virtual members, and for each the final
-- overrider, its subobject first
pub record Line : Type 0 where
  pub members : List ℕ
  pub finals : List (ℕ × MemberRef)

-- what stands at a number that no subobject has
abbrev pub no_line : Line
no_line = record { members = []; finals = [] }

-- a line tells r of the k-th member
abbrev pub Tells : Line → ℕ → ℕ × MemberRef → Type 0
Tells l k r = (i : ℕ) × (slice_get l.members i ≡ Some k) × (slice_get l.finals i ≡ Some r)

-- what is told of the k-th member of the n-th subobject's class
abbrev pub Gives : List Line → ℕ → ℕ → ℕ × MemberRef → Type 0
Gives f n k r = Tells (get_or f n no_line) k r

-- r is the final overrider: its subobject, and the member of the subobject's class
abbrev pub IsFinalRef : List Class → ℕ → ℕ → Member → ℕ × MemberRef → Type 0
IsFinalRef g d n m r = IsFinal g d n m r.0 × (r.1.class ≡ end_of (node g d r.0)) × IsSameAt (members_of g r.1.class) m r.1.index

-- each virtual member of each subobject's class has its final overrider there, and no other
pub record AreFinals (g : List Class) (d : ℕ) (f : List Line) : Type 0 where
  pub some : (n k : ℕ) (m : Member) → IsVirtualAt g d n k m → (r : ℕ × MemberRef) × Gives f n k r
  pub each : (n k : ℕ) (m : Member) (r : ℕ × MemberRef) → IsVirtualAt g d n k m → Gives f n k r → IsFinalRef g d n m r

-- the results of all members of class c keep the rule
abbrev pub KeepsResults : List Class → ℕ → Type 0
KeepsResults g c = (k : ℕ) (m : Member) → slice_get (members_of g c) k ≡ Some m → IsBroken g c m → ⊥

-- m is the first member of class c that breaks it
abbrev pub IsFirstBroken : List Class → ℕ → ℕ → Member → Type 0
IsFirstBroken g c k m = (slice_get (members_of g c) k ≡ Some m) × IsBroken g c m
    × ((j : ℕ) (x : Member) → j < k → slice_get (members_of g c) j ≡ Some x → IsBroken g c x → ⊥)

-- the n-th subobject and k-th member are before the i-th and j-th, or the same
abbrev pub IsNotAfter : ℕ → ℕ → ℕ → ℕ → Type 0
IsNotAfter n k i j = (n < i) ⊎ ((n ≡ i) × (k ≤ j))

-- m is the first virtual function without an only final overrider, by subobject and then by member
abbrev pub IsFirstWithout : List Class → ℕ → ℕ → ℕ → Member → Type 0
IsFirstWithout g d n k m = IsVirtualAt g d n k m × HasNoFinal g d n m
    × ((i j : ℕ) (x : Member) → IsVirtualAt g d i j x → HasNoFinal g d i x → IsNotAfter n k i j)

-- why class c has no final overriders
abbrev pub Ends : List Class → ℕ → FinalEnd → Type 0
Ends g c (end.Result place) = (k : ℕ) × (m : Member) × IsFirstBroken g c k m × (place ≡ m.place)
Ends g c (end.Several name place) = KeepsResults g c × ((n k : ℕ) × (m : Member) × IsFirstWithout g c n k m × (name ≡ m.name) × (place ≡ m.place))
Ends g c end.NoMemory = Unit {0}
