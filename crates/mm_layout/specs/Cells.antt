-- Which tag cell a subobject uses, and the numbers of tags. Own.
use Rattle.std.specs.Prelude.{◌≡◌, ℕ, zero, suc, ◌+◌, ◌<◌, ◌≤◌, Bool, true, false, List, [], ◌∷◌, ◌++◌, length, take, sum_by, cond, Option, Some, None}
use Rattle.std.specs.List.{find}
use Rattle.std.specs.Bool.{Decides}
use Rattle.mm_classes.specs.Classes.{Class, bases_of}
use Rattle.mm_classes.specs.Subobjects.{plain_bases, subobjects_of, end_of}
use Rattle.mm_classes.specs.Questions.{node, IsNode}
use Rattle.mm_layout.specs.Regions.{HasTag, owns_cell, own_cells, offset_of}

-- the test tells which classes have a tag
abbrev pub TellsTags : List Class → (ℕ → Bool) → Type 0
TellsTags g tagged = (c : ℕ) → c < length g → Decides (tagged c) (HasTag g c)

-- whether the class of the n-th subobject of d has a tag
abbrev pub tagged_at : List Class → (ℕ → Bool) → ℕ → ℕ → Bool
tagged_at g tagged d n = tagged (end_of (node g d n))

-- the base whose tag cell a class shares: its first direct non-virtual base that has a tag, if
-- there is one
abbrev pub lender : List Class → (ℕ → Bool) → ℕ → Option ℕ
lender g tagged c = find tagged (plain_bases (bases_of g c))

-- The n-th subobject of d uses the tag cell of the h-th: that is itself, and owns a cell; or the
-- subobject of its lender, in it, uses that cell.
pub data UsesCell (g : List Class) (tagged : ℕ → Bool) (d : ℕ) : ℕ → ℕ → Type 0 where
  itself : {n h : ℕ} → n ≡ h → IsNode g d n → owns_cell g tagged (end_of (node g d n)) ≡ true → UsesCell g tagged d n h
  lent : {n h : ℕ} (m b : ℕ) → IsNode g d n → IsNode g d m → lender g tagged (end_of (node g d n)) ≡ Some b
      → node g d m ≡ node g d n ++ b ∷ [] → UsesCell g tagged d m h → UsesCell g tagged d n h

-- where in d the tag cell stands that its n-th subobject uses: at its owner's offset; none where it
-- has no tag
abbrev pub IsCell : List Class → (ℕ → Bool) → ℕ → ℕ → Option ℕ → Type 0
IsCell g tagged d n None = tagged_at g tagged d n ≡ false
IsCell g tagged d n (Some x) = (h : ℕ) × UsesCell g tagged d n h × (x ≡ offset_of g tagged d h)

-- how many of the first n subobjects of d own a tag cell
abbrev pub cells_before : List Class → (ℕ → Bool) → ℕ → ℕ → ℕ
cells_before g tagged d n = sum_by (λ p. own_cells g tagged (end_of p)) (take n (subobjects_of g d))

-- the tag cells of an object of d
abbrev pub cells_of : List Class → (ℕ → Bool) → ℕ → ℕ
cells_of g tagged d = cells_before g tagged d (length (subobjects_of g d))

-- the tag cells of the first n classes, one object of each
abbrev pub tags_before : List Class → (ℕ → Bool) → ℕ → ℕ
tags_before g tagged zero = 0
tags_before g tagged (suc c) = tags_before g tagged c + cells_of g tagged c

-- The tag of the n-th subobject of d: the tags of the classes before d go first, then those of the
-- cells of d before the one that the subobject uses; none where it has no tag.
abbrev pub IsTag : List Class → (ℕ → Bool) → ℕ → ℕ → Option ℕ → Type 0
IsTag g tagged d n None = tagged_at g tagged d n ≡ false
IsTag g tagged d n (Some t) = (h : ℕ) × UsesCell g tagged d n h × (t ≡ tags_before g tagged d + cells_before g tagged d h)

-- the subobjects of d that have a tag
abbrev pub pairs_of : List Class → (ℕ → Bool) → ℕ → ℕ
pairs_of g tagged d = sum_by (λ p. cond (tagged (end_of p)) 1 0) (subobjects_of g d)

-- those of the first n classes
abbrev pub pairs_before : List Class → (ℕ → Bool) → ℕ → ℕ
pairs_before g tagged zero = 0
pairs_before g tagged (suc c) = pairs_before g tagged c + pairs_of g tagged c

-- there are at most 65,535 pairs of a class and a subobject of it that has a tag
abbrev pub HasFewTags : List Class → Type 0
HasFewTags g = (tagged : ℕ → Bool) → TellsTags g tagged → pairs_before g tagged (length g) ≤ 65535
