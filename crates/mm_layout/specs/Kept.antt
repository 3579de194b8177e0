-- What vectors stand for while a layout is made, and in it.
use Rattle.std.specs.Prelude.{◌≡◌, ℕ, ◌<◌, ◌≤◌, Bool, false, List, length, get_or, map, Option, None, Some}
use Rattle.mm_classes.specs.Classes.{Class, IsComplete}
use Rattle.mm_classes.specs.Subobjects.{subobjects_of}
use Rattle.mm_classes.specs.Questions.{IsNode}
use Rattle.mm_layout.specs.declared.layout.Placed.{Placed}
use Rattle.mm_layout.specs.declared.sorts.Sorts.{Sorts}
use Rattle.mm_layout.specs.Regions.{owns_cell, region_of}
use Rattle.mm_layout.specs.Cells.{tagged_at, UsesCell}
use Rattle.mm_layout.specs.Layouts.{Object, AreTags, test_of}

-- the object of what is kept of a class
abbrev pub object_in : Placed → Object
object_in p = record { offsets = p.offsets.items; places = p.places.items; cells = p.cells.items; tags = p.tags.items }

-- all of them
abbrev pub objects_in : List Placed → List Object
objects_in ps = map object_in ps

-- for each complete class whether its subobjects own a tag cell
pub record AreOwning (g : List Class) (tagged : ℕ → Bool) (owning : List Bool) : Type 0 where
  pub count : length owning ≡ length g
  pub each : (c : ℕ) → IsComplete g c → get_or owning c false ≡ owns_cell g tagged c

-- the region of each complete class
pub record AreRegions (g : List Class) (tagged : ℕ → Bool) (regions : List ℕ) : Type 0 where
  pub count : length regions ≡ length g
  pub each : (c : ℕ) → IsComplete g c → get_or regions c 0 ≡ region_of g tagged c
  pub small : (c : ℕ) → IsComplete g c → get_or regions c 0 ≤ 4194312

-- which tags, cells and regions the classes have
pub record AreSorts (g : List Class) (s : Sorts) : Type 0 where
  pub tags : AreTags g s.tags.items
  pub owning : AreOwning g (test_of s.tags.items) s.owning.items
  pub regions : AreRegions g (test_of s.tags.items) s.regions.items

-- the number of the subobject whose tag cell the n-th subobject of d uses; none where it has no tag
abbrev pub IsUser : List Class → (ℕ → Bool) → ℕ → ℕ → Option ℕ → Type 0
IsUser g tagged d n None = tagged_at g tagged d n ≡ false
IsUser g tagged d n (Some h) = UsesCell g tagged d n h

-- that of each subobject
pub record AreUsers (g : List Class) (tagged : ℕ → Bool) (d : ℕ) (owners : List (Option ℕ)) : Type 0 where
  pub count : length owners ≡ length (subobjects_of g d)
  pub each : (n : ℕ) → IsNode g d n → IsUser g tagged d n (get_or owners n None)
