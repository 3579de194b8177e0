-- Final overriders. ISO/IEC 14882:1998, 10.3 (virtual functions); the subobjects are those of
-- Rossie and Friedman.
use Rattle.std.specs.Prelude.{◌≡◌, ℕ, ◌<◌, List, length, Some, slice_get}
use Rattle.mm_classes.specs.declared.class.Member.{Member}
use Rattle.mm_classes.specs.declared.answer.Up.TheVariants as up
use Rattle.mm_classes.specs.Lists.{Has}
use Rattle.mm_classes.specs.Classes.{Class, members_of}
use Rattle.mm_classes.specs.Subobjects.{subobjects_of, end_of, IsWithin}
use Rattle.mm_classes.specs.Questions.{node, IsNode, Picks, IsLeft}
use Rattle.mm_classes.specs.Functions.{AreSame, IsVirtualIn}

-- one of the members is the same function as m
abbrev pub DeclaresSame : List Member → Member → Type 0
DeclaresSame ms m = (x : Member) × Has ms x × AreSame m x

-- the k-th member is the same function as m
abbrev pub IsSameAt : List Member → Member → ℕ → Type 0
IsSameAt ms m k = (x : Member) × (slice_get ms k ≡ Some x) × AreSame m x

-- m is the k-th member of the class of the n-th subobject of d, and a virtual function there
-- (10.3/2)
abbrev pub IsVirtualAt : List Class → ℕ → ℕ → ℕ → Member → Type 0
IsVirtualAt g d n k m = IsNode g d n × (slice_get (members_of g (end_of (node g d n))) k ≡ Some m) × IsVirtualIn g (end_of (node g d n)) m

-- the t-th subobject of d contains the n-th, and declares the function m
abbrev pub IsOver : List Class → ℕ → ℕ → Member → ℕ → Type 0
IsOver g d n m t = IsWithin g (node g d n) (node g d t) × DeclaresSame (members_of g (end_of (node g d t))) m

-- The final overrider, in an object of d, of a function m that its n-th subobject declares: of the
-- subobjects that contain the n-th and declare m, the t-th is the only one that no other of them
-- contains (10.3/2).
abbrev pub IsFinal : List Class → ℕ → ℕ → Member → ℕ → Type 0
IsFinal g d n m t = Picks (up.One t) (IsLeft g d (IsOver g d n m)) (length (subobjects_of g d))

-- there is no only one
abbrev pub HasNoFinal : List Class → ℕ → ℕ → Member → Type 0
HasNoFinal g d n m = (t : ℕ) → IsFinal g d n m t → ⊥
