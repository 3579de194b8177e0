-- What a layout keeps of each class, and when it is that of a class list. Own.
use Rattle.std.specs.Prelude.{◌≡◌, ℕ, ◌+◌, ◌<◌, ◌≤◌, ◌^◌, Bool, false, List, [], length, get_or, Option, None}
use Rattle.std.specs.Bool.{Decides}
use Rattle.mm_classes.specs.Classes.{Class, IsComplete, members_of}
use Rattle.mm_classes.specs.Subobjects.{subobjects_of}
use Rattle.mm_classes.specs.Questions.{IsNode}
use Rattle.mm_layout.specs.Regions.{HasTag, offset_of, size_of, place_of}
use Rattle.mm_layout.specs.Cells.{TellsTags, IsCell, IsTag}

-- Of one class: the offset of each subobject, in order, and then the size; the place of each member in its region; for each
-- subobject where the tag cell stands that it uses, and its tag.
pub record Object : Type 0 where
  pub offsets : List ℕ
  pub places : List ℕ
  pub cells : List (Option ℕ)
  pub tags : List (Option ℕ)

-- what stands at a number that no class has
abbrev pub nothing : Object
nothing = record { offsets = []; places = []; cells = []; tags = [] }

-- the object of a class
abbrev pub object_at : List Object → ℕ → Object
object_at l c = get_or l c nothing

-- these are the tags of the classes: the test of each
abbrev pub AreTags : List Class → List Bool → Type 0
AreTags g tags = (length tags ≡ length g) × ((c : ℕ) → c < length g → Decides (get_or tags c false) (HasTag g c))

-- the test of a list of tags
abbrev pub test_of : List Bool → ℕ → Bool
test_of tags c = get_or tags c false

-- the offsets of the subobjects of d, and its size behind them
pub record AreOffsets (g : List Class) (tagged : ℕ → Bool) (d : ℕ) (offsets : List ℕ) : Type 0 where
  pub count : length offsets ≡ length (subobjects_of g d) + 1
  pub each : (n : ℕ) → n ≤ length (subobjects_of g d) → get_or offsets n 0 ≡ offset_of g tagged d n
  pub small : size_of g tagged d < 2 ^ 31

-- the places of the members of c
pub record ArePlaces (g : List Class) (tagged : ℕ → Bool) (c : ℕ) (places : List ℕ) : Type 0 where
  pub count : length places ≡ length (members_of g c)
  pub each : (k : ℕ) → k < length (members_of g c) → get_or places k 0 ≡ place_of g tagged c k

-- where the tag cells of the subobjects of d stand
pub record AreCells (g : List Class) (tagged : ℕ → Bool) (d : ℕ) (cells : List (Option ℕ)) : Type 0 where
  pub count : length cells ≡ length (subobjects_of g d)
  pub each : (n : ℕ) → IsNode g d n → IsCell g tagged d n (get_or cells n None)

-- the tags of the subobjects of d
pub record AreNumbers (g : List Class) (tagged : ℕ → Bool) (d : ℕ) (tags : List (Option ℕ)) : Type 0 where
  pub count : length tags ≡ length (subobjects_of g d)
  pub each : (n : ℕ) → IsNode g d n → IsTag g tagged d n (get_or tags n None)

-- the object of a complete class
pub record IsObjectOf (g : List Class) (tagged : ℕ → Bool) (c : ℕ) (o : Object) : Type 0 where
  pub offsets : AreOffsets g tagged c o.offsets
  pub places : ArePlaces g tagged c o.places
  pub cells : AreCells g tagged c o.cells
  pub tags : AreNumbers g tagged c o.tags

-- the layout of a class list
pub record IsLayoutOf (g : List Class) (l : List Object) : Type 0 where
  pub tagged : ℕ → Bool
  pub tells : TellsTags g tagged
  pub classes : length l ≡ length g
  pub objects : (c : ℕ) → IsComplete g c → IsObjectOf g tagged c (object_at l c)
