-- What callers may rely on of a layout.
use Rattle.std.specs.Prelude.{◌≡◌, ℕ, ◌+◌, ◌*◌, ◌<◌, ◌≤◌, Bool, true, List, ◌∷◌, length, Some, slice_get}
use Rattle.mm_classes.specs.declared.class.Member.{Member}
use Rattle.mm_classes.specs.Classes.{Class, IsComplete, members_of, is_field}
use Rattle.mm_classes.specs.Subobjects.{Path, end_of, compose}
use Rattle.mm_classes.specs.Questions.{node, IsNode}
use Rattle.mm_layout.specs.Regions.{owns_cell, region_of, offset_of, size_of, place_of}
use Rattle.mm_layout.specs.Cells.{tagged_at, UsesCell, IsTag, tags_before, pairs_before}

-- The regions of an object are disjoint, inside it, not empty and aligned. A subobject of a part
-- stands in the whole where it stands in the part, behind the part's own place, unless it belongs
-- to a virtual base.
pub record LaysOut (g : List Class) (tagged : ℕ → Bool) (d : ℕ) : Type 0 where
  pub some : (c : ℕ) → 8 ≤ region_of g tagged c
  pub apart : (m n : ℕ) → m < n → IsNode g d n → offset_of g tagged d m + region_of g tagged (end_of (node g d m)) ≤ offset_of g tagged d n
  pub inside : (n : ℕ) → IsNode g d n → offset_of g tagged d n + region_of g tagged (end_of (node g d n)) ≤ size_of g tagged d
  pub aligned : (n : ℕ) → (k : ℕ) × (offset_of g tagged d n ≡ 8 * k)
  pub composed : (n m k : ℕ) (t : Path) → IsNode g d n → IsNode g (end_of (node g d n)) m → IsNode g d k → node g (end_of (node g d n)) m ≡ end_of (node g d n) ∷ t
      → node g d k ≡ compose (node g d n) (node g (end_of (node g d n)) m) → offset_of g tagged d k ≡ offset_of g tagged d n + offset_of g tagged (end_of (node g d n)) m

-- the k-th member is a field
abbrev pub IsFieldAt : List Class → ℕ → ℕ → Type 0
IsFieldAt g c k = (m : Member) × (slice_get (members_of g c) k ≡ Some m) × (is_field m ≡ true)

-- The cells of a region are disjoint and inside it: eight bytes for the tag, if it has a cell of
-- its own, then eight for each field.
pub record FillsRegion (g : List Class) (tagged : ℕ → Bool) (c : ℕ) : Type 0 where
  pub behind : (k : ℕ) → owns_cell g tagged c ≡ true → 8 ≤ place_of g tagged c k
  pub apart : (k l : ℕ) → k < l → IsFieldAt g c k → place_of g tagged c k + 8 ≤ place_of g tagged c l
  pub inside : (k : ℕ) → IsFieldAt g c k → place_of g tagged c k + 8 ≤ region_of g tagged c

-- Each subobject that has a tag uses one tag cell, which is owned, and none else uses any. What
-- uses an earlier cell comes before what uses a later one, so the cells are in the order of the
-- first subobjects that use them. Two subobjects of one class use two cells. The cell stands in a
-- part as in the whole, behind the part's own place.
pub record SharesCells (g : List Class) (tagged : ℕ → Bool) (d : ℕ) : Type 0 where
  pub some : (n : ℕ) → IsNode g d n → tagged_at g tagged d n ≡ true → (h : ℕ) × UsesCell g tagged d n h
  pub tells : (n h : ℕ) → UsesCell g tagged d n h → IsNode g d n × (tagged_at g tagged d n ≡ true)
  pub owner : (n h : ℕ) → UsesCell g tagged d n h → IsNode g d h × (owns_cell g tagged (end_of (node g d h)) ≡ true)
  pub one : (n h k : ℕ) → UsesCell g tagged d n h → UsesCell g tagged d n k → h ≡ k
  pub order : (m n h k : ℕ) → UsesCell g tagged d m h → UsesCell g tagged d n k → h < k → m < n
  pub apart : (m n h : ℕ) → UsesCell g tagged d m h → UsesCell g tagged d n h → end_of (node g d m) ≡ end_of (node g d n) → m ≡ n
  pub part : (n h k : ℕ) → UsesCell g tagged d n h → UsesCell g tagged (end_of (node g d n)) 0 k
      → offset_of g tagged d h ≡ offset_of g tagged d n + offset_of g tagged (end_of (node g d n)) k

-- Tags are the numbers from 0 on without a gap, at most as many as there are pairs of a class and a
-- subobject with a tag. Two pairs whose subobjects are of one class have two tags.
pub record NumbersTags (g : List Class) (tagged : ℕ → Bool) : Type 0 where
  pub below : (d n t : ℕ) → d < length g → IsTag g tagged d n (Some t) → t < tags_before g tagged (length g)
  pub dense : (t : ℕ) → t < tags_before g tagged (length g) → (d n : ℕ) × IsComplete g d × IsNode g d n × IsTag g tagged d n (Some t)
  pub few : tags_before g tagged (length g) ≤ pairs_before g tagged (length g)
  pub apart : (d e m n t : ℕ) → d < length g → e < length g → IsTag g tagged d m (Some t) → IsTag g tagged e n (Some t)
      → end_of (node g d m) ≡ end_of (node g e n) → (d ≡ e) × (m ≡ n)
