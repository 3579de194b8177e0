-- How the objects of a class are laid out: one region for each subobject, in their order. Own.
use Rattle.std.specs.Prelude.{ℕ, ◌+◌, ◌*◌, Bool, ◌&&◌, not, List, length, take, max, sum_by, cond, ◌⊎◌}
use Rattle.std.specs.List.{list_any}
use Rattle.mm_classes.specs.declared.class.Base.{Base}
use Rattle.mm_classes.specs.Classes.{Class, bases_of, members_of, field_count, IsPolymorphic}
use Rattle.mm_classes.specs.Subobjects.{subobjects_of, end_of, IsVirtual}

-- Objects of a class tell their class by a tag where it is polymorphic (ISO/IEC 14882:1998, 10.3) or has a virtual base.
abbrev pub HasTag : List Class → ℕ → Type 0
HasTag g c = IsPolymorphic g c ⊎ ((v : ℕ) × IsVirtual g c v)

-- whether some direct non-virtual base has a tag
abbrev pub shares_cell : List Class → (ℕ → Bool) → ℕ → Bool
shares_cell g tagged c = list_any (λ (b : Base). not b.shared && tagged b.class) (bases_of g c)

-- whether a subobject of the class has a tag cell of its own: it has a tag, and no base whose tag cell it shares
abbrev pub owns_cell : List Class → (ℕ → Bool) → ℕ → Bool
owns_cell g tagged c = tagged c && not (shares_cell g tagged c)

-- the tag cells of its own, none or one
abbrev pub own_cells : List Class → (ℕ → Bool) → ℕ → ℕ
own_cells g tagged c = cond (owns_cell g tagged c) 1 0

-- the bytes of a subobject alone, without its bases: eight for its tag cell and for each field, and never none
abbrev pub region_of : List Class → (ℕ → Bool) → ℕ → ℕ
region_of g tagged c = 8 * max 1 (own_cells g tagged c + field_count (members_of g c))

-- where the region of the n-th subobject of d begins
abbrev pub offset_of : List Class → (ℕ → Bool) → ℕ → ℕ → ℕ
offset_of g tagged d n = sum_by (λ p. region_of g tagged (end_of p)) (take n (subobjects_of g d))

-- the bytes of an object
abbrev pub size_of : List Class → (ℕ → Bool) → ℕ → ℕ
size_of g tagged d = offset_of g tagged d (length (subobjects_of g d))

-- where the k-th member stands in the region of its class: behind the tag cell and the fields before it
abbrev pub place_of : List Class → (ℕ → Bool) → ℕ → ℕ → ℕ
place_of g tagged c k = 8 * (own_cells g tagged c + field_count (take k (members_of g c)))
