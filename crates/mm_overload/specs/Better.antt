-- Which of two conversions is better. ISO/IEC 14882:1998, 13.3.3.2 (ranking implicit conversion
-- sequences).
use Rattle.std.specs.Prelude.{◌≡◌, ℕ, ◌<◌, ◌⊎◌, true, List}
use Rattle.mm_classes.specs.declared.class.Ty.{Ty}
use Rattle.mm_classes.specs.declared.class.Ty.TheVariants as ty
use Rattle.mm_classes.specs.Classes.{Class}
use Rattle.mm_overload.specs.declared.conv.Conv.{Conv}
use Rattle.mm_overload.specs.declared.conv.Order.{Order}
use Rattle.mm_overload.specs.declared.conv.Order.TheVariants.{Better, Worse, Neither}
use Rattle.mm_overload.specs.declared.conv.Rank.{Rank}
use Rattle.mm_overload.specs.declared.conv.Rank.TheVariants.{Exact, Promotion, Conversion}
use Rattle.mm_overload.specs.Rank.{is_base}

-- the place of a rank, the best first (13.3.3.2/3)
abbrev pub place_of : Rank → ℕ
place_of Exact = 0
place_of Promotion = 1
place_of Conversion = 2

-- a pointer is converted to bool
abbrev pub IsPointerToBool : Conv → Type 0
IsPointerToBool x = (c : ℕ) × (x.from ≡ ty.Ptr c) × (x.to ≡ ty.Bool)

-- the one is a conversion of a pointer to bool, and the other is none (13.3.3.2/4)
abbrev pub OnlyIsPointerToBool : Conv → Conv → Type 0
OnlyIsPointerToBool x other = IsPointerToBool x × (IsPointerToBool other → ⊥)

-- from class C, to B and to A, both as pointers or both as references, and B derives from A
-- (13.3.3.2/4)
abbrev pub IsNearer : List Class → (from to other : Ty) → Type 0
IsNearer g (ty.Ptr c) (ty.Ptr b) (ty.Ptr a) = is_base g b a ≡ true
IsNearer g (ty.Ref c) (ty.Ref b) (ty.Ref a) = is_base g b a ≡ true
IsNearer g from to other = ⊥

-- Of two conversions of one argument the first is better: its rank is; or the ranks are equal, and
-- only the other makes a pointer a bool, or the first goes to a nearer base.
abbrev pub IsBetter : List Class → Conv → Conv → Type 0
IsBetter g x y = (x.from ≡ y.from) × ((place_of x.rank < place_of y.rank)
    ⊎ ((x.rank ≡ y.rank) × (OnlyIsPointerToBool y x ⊎ IsNearer g x.from x.to y.to)))

-- how the first stands to the second
abbrev pub IsOrder : List Class → Conv → Conv → Order → Type 0
IsOrder g x y Better = IsBetter g x y
IsOrder g x y Worse = IsBetter g y x
IsOrder g x y Neither = (IsBetter g x y → ⊥) × (IsBetter g y x → ⊥)

-- of two conversions at most one is better
abbrev pub OneOrder : List Class → Type 0
OneOrder g = (x y : Conv) (o p : Order) → IsOrder g x y o → IsOrder g x y p → o ≡ p
